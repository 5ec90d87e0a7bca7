-- The questions of whole packets: those of the packet, then those of its bodies.
use Rattle.std.specs.Prelude.{◌≡◌, ℕ, List, ◌∷◌, ◌++◌, length}
use Rattle.rules.specs.Questions.{Question, ◌if_not◌}
use Rattle.rules.specs.Packets.{number, packet_asks, body_asks, body, first, second}

-- a setting packet over a field of size q: is its first body four bytes with the value q? If not, 20. D's body questions follow
abbrev pub setting_asked : ℕ → List ℕ → List Question
setting_asked q x =
    packet_asks 1 2 x
    ++ (((length (body x first) ≡ 4) × (number (body x first) ≡ q)) if_not 20)
    ∷ body_asks q (body x second)

-- an offer: the questions of Q's body, then those of P's
abbrev pub offer_asked : ℕ → List ℕ → List Question
offer_asked q x = packet_asks 3 4 x ++ body_asks q (body x first) ++ body_asks q (body x second)
