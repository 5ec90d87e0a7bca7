-- The table of contents, the sorts of packets, and the bodies that are parts of a packet.
use Rattle.std.specs.Prelude.{◌≡◌, ℕ, ◌+◌, ◌*◌, ◌≤◌, List, length, take, drop, slice_index}
use Rattle.rules.specs.Packets.{first, second, start, long}
use Rattle.packet.specs.declared.body.Body.{Body}
use Rattle.packet.specs.declared.body.Body.TheVariants.{Size, D, Q, P}
use Rattle.packet.specs.declared.body.Kind.{Kind}
use Rattle.packet.specs.declared.body.Kind.TheVariants as kind
use Rattle.packet.specs.declared.body.Sort.{Sort}
use Rattle.packet.specs.declared.body.Sort.TheVariants.{Setting, Offer}

-- the entry at the front of the table t, and the rest of the table
pub record Entry (t : List ℕ) (kind start len : ℕ) (rest : List ℕ) : Type 0 where
  pub there : 5 ≤ length t
  pub kind_is : kind ≡ slice_index t 0
  pub start_is : start ≡ slice_index t 1 * 256 + slice_index t 2
  pub len_is : len ≡ slice_index t 3 * 256 + slice_index t 4
  pub rest_is : rest ≡ drop 5 t

-- the number of a kind
abbrev pub kind_number : Kind → ℕ
kind_number kind.Size = 1
kind_number kind.D = 2
kind_number kind.Q = 3
kind_number kind.P = 4

-- the kinds of a sort: 1 is the field's size, 2 is D, 3 is Q, 4 is P
abbrev pub first_kind : Sort → ℕ
first_kind Setting = 1
first_kind Offer = 3

abbrev pub second_kind : Sort → ℕ
second_kind Setting = 2
second_kind Offer = 4

-- the kind that names a body
abbrev pub kind_of : Body → ℕ
kind_of (Size p) = kind_number kind.Size
kind_of (D p) = kind_number kind.D
kind_of (Q p) = kind_number kind.Q
kind_of (P p) = kind_number kind.P

-- the bytes that a body lends
abbrev pub bytes_of : Body → List ℕ
bytes_of (Size p) = p.now
bytes_of (D p) = p.now
bytes_of (Q p) = p.now
bytes_of (P p) = p.now

-- the body b has this kind, and is the part of the packet x that starts at the byte `start` and is `len` bytes long
pub record Part (x : List ℕ) (kind start len : ℕ) (b : Body) : Type 0 where
  pub kind_is : kind_of b ≡ kind
  pub inside : start + len ≤ length x
  pub bytes_are : bytes_of b ≡ take len (drop start x)

-- b and c are the bodies of the packet x, each at the place that its entry names
pub record Parts (s : Sort) (x : List ℕ) (b c : Body) : Type 0 where
  pub one : Part x (first_kind s) (start x first) (long x first) b
  pub other : Part x (second_kind s) (start x second) (long x second) c
