-- What holds of all packets.
use Rattle.std.specs.Prelude.{◌≡◌, ℕ, ◌+◌, ◌<◌, List, length}
use Rattle.field.specs.Meaning.{Meaning, Lawful}
use Rattle.algebra.specs.Codes.{R}
use Rattle.rules.specs.Questions.{Answer, Answers}
use Rattle.rules.specs.Packets.{Bytes, packet_asks, body_asks, Holds, packet}
use Rattle.rules.specs.Settings.{body_of}
use Rattle.packet.specs.Writing.{ReadAs}

pub record PacketsStand : Type 0 where
  -- reading what was written gives the bodies back, and the polynomial of a body
  pub packet_back : (k l : ℕ) (b c : List ℕ) → 11 + length b < 65536 → length c < 65536 → Holds k l (packet k l b c) b c
  pub body_back : (m : Meaning) (L : Lawful m) (p : R L) → ReadAs L (body_of L p) p
  -- two accepted packets that hold equal bodies are equal bytes, and so are two accepted bodies of one polynomial
  pub packet_single : (k l : ℕ) (x y b c : List ℕ) → Bytes x → Bytes y → Holds k l x b c → Holds k l y b c → x ≡ y
  pub body_single : (m : Meaning) (L : Lawful m) (a b : List ℕ) (p : R L) → Bytes a → Bytes b → ReadAs L a p → ReadAs L b p → a ≡ b
  -- two answers to the questions of a packet, or of a body, are the same
  pub packet_answer : (k l : ℕ) (x : List ℕ) (a b : Answer) → Answers (packet_asks k l x) a → Answers (packet_asks k l x) b → a ≡ b
  pub body_answer : (q : ℕ) (x : List ℕ) (a b : Answer) → Answers (body_asks q x) a → Answers (body_asks q x) b → a ≡ b
