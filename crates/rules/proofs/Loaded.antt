-- The packet of an accepted setting is accepted by a blank end: there are ends that are newly loaded with it.
use Rattle.std.proofs.Common.{◌≡◌, ℕ, List, [], ◌∷◌, ◌++◌, sym, refl, ap, ◌∙◌, subst, arith}
use Rattle.field.specs.Meaning.{Meaning, Lawful}
use Rattle.algebra.specs.Codes.{codes, R}
use Rattle.ring.proofs.PolyModel.{poly_ring}
use Rattle.rules.specs.Questions.{Question, accepted, Hold, ◌if_not◌}
use Rattle.rules.specs.Packets.{four, packet_asks, body_asks, body, first, second, Holds}
use Rattle.rules.specs.Settings.{EvenDegree, Monic, Coprime, Accepted, body_of, poly_of, setting_packet}
use Rattle.rules.specs.Ends.{blank, ready, load, questions, SizeIs, Does}
use Rattle.rules.proofs.Answering.{hold_append, hold_answers}
use Rattle.rules.proofs.Written.{number_four, packet_holds}
use Rattle.rules.proofs.Spelled.{body_length, body_holds, body_read}

module _ {M : Meaning} (L : Lawful M) (A : Accepted L) where
  abbrev x : List ℕ
  x = setting_packet L A.D

  holds : Holds 1 2 x (four M.size) (body_of L A.D)
  holds = packet_holds 1 2 (four M.size) (body_of L A.D) (omega arith) (omega (arith, body_length L A.D, A.D_len, A.high))

  reads : poly_of L (body x second) ≡ A.D
  reads = ap (poly_of L) (sym holds.other) ∙ body_read L A.D

  setting_asked_lem : (D : R L) → D ≡ A.D → Hold ((EvenDegree L D if_not 21) ∷ (Monic L D if_not 22) ∷ (Coprime L D ((poly_ring (codes L)).der D) if_not 23) ∷ [])
  setting_asked_lem D e = subst (λ (E : R L). Hold ((EvenDegree L E if_not 21) ∷ (Monic L E if_not 22) ∷ (Coprime L E ((poly_ring (codes L)).der E) if_not 23) ∷ []))
      (sym e) ((A.m, A.D_len, A.low, A.high), (A.D_monic, (A.plain, tt)))

  size_is : SizeIs L (body x first)
  size_is = subst (SizeIs L) holds.one (refl, number_four M.size (let h = L.high in omega arith))

  pub load_accepts : Does L blank (load x) accepted [] (ready A)
  load_accepts = record {
    answer = hold_answers (questions L blank (load x)) (
      tt,
      (hold_append (packet_asks 1 2 x) ((SizeIs L (body x first) if_not 20) ∷ body_asks M.size (body x second) ++ more) holds.asked (
        size_is,
        hold_append (body_asks M.size (body x second)) more
            (subst (λ b. Hold (body_asks M.size b)) holds.other (body_holds L A.D))
            (setting_asked_lem (poly_of L (body x second)) reads),
      )),
    );
    after = (A, sym reads, refl, refl);
  }
    where
      more : List Question
      more = (EvenDegree L (poly_of L (body x second)) if_not 21) ∷ (Monic L (poly_of L (body x second)) if_not 22)
          ∷ (Coprime L (poly_of L (body x second)) ((poly_ring (codes L)).der (poly_of L (body x second))) if_not 23) ∷ []
