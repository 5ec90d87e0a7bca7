-- The refusals of the rules: each stands for one question, and comes when that question is the first with the answer no.
use Rattle.std.specs.Prelude.{ℕ}
use Rattle.field.specs.declared.refusal.Refusal.{Refusal}
use Rattle.field.specs.declared.refusal.Refusal.TheVariants.{NotAModulus, TooLarge, NotACode, Square, PacketTooShort, WrongCount, WrongKinds, WrongLayout, PartialCode, CodeTooLarge, LeadingZero, WrongFieldSize, WrongDegree, SettingNotMonic, CommonFactor, InUse, NotReady, WrongSecretLength, TrivialSecret, NothingToTell, BufferTooSmall, NotOpen, NotKeyed, NotLoaded, NotReduced, IdealNotMonic, NotLower, NotAnIdeal, TrivialOffer, TrivialKey, OffsetTooLarge}

-- the number of each refusal, under the question that has the answer no
abbrev pub refusal_number : Refusal → ℕ
-- Is p one of the ten moduli?
refusal_number NotAModulus = 1
-- Is q × q at most 2147483647?
refusal_number TooLarge = 2
-- Is n below q?
refusal_number NotACode = 3
-- Does n differ from the square of every element?
refusal_number Square = 4
-- Has the packet 11 bytes or more?
refusal_number PacketTooShort = 10
-- Is the count of entries 2?
refusal_number WrongCount = 11
-- Are the kinds those wanted, in rising order?
refusal_number WrongKinds = 12
-- Does the first body start at byte 11, the second where the first ends, and the packet end with the second?
refusal_number WrongLayout = 13
-- Is the length of a polynomial's body a multiple of 4?
refusal_number PartialCode = 14
-- Is every code of a polynomial below q?
refusal_number CodeTooLarge = 15
-- Is the first code of a body that is not empty other than 0?
refusal_number LeadingZero = 16
-- Is the first body of a setting four bytes with the value q?
refusal_number WrongFieldSize = 20
-- Is the degree of D even and from 4 to 50?
refusal_number WrongDegree = 21
-- Is D monic?
refusal_number SettingNotMonic = 22
-- Are D and its derivative without a common factor?
refusal_number CommonFactor = 23
-- Is the end blank or ready?
refusal_number InUse = 30
-- Is the end ready?
refusal_number NotReady = 31
-- Has the secret, or the number of a place, 1 to 32 bytes?
refusal_number WrongSecretLength = 32
-- Is the secret's ideal other than (1)?
refusal_number TrivialSecret = 33
-- Is the end open or keyed?
refusal_number NothingToTell = 34
-- Is the buffer at least as long as what is written?
refusal_number BufferTooSmall = 35
-- Is the end open?
refusal_number NotOpen = 36
-- Is the end keyed?
refusal_number NotKeyed = 37
-- Is a setting loaded?
refusal_number NotLoaded = 38
-- Has Q a degree from 0 to m − 1?
refusal_number NotReduced = 40
-- Is Q monic?
refusal_number IdealNotMonic = 41
-- Is P of lower degree than Q?
refusal_number NotLower = 42
-- Does Q divide D − P·P?
refusal_number NotAnIdeal = 43
-- Is the offered ideal other than (1)?
refusal_number TrivialOffer = 44
-- Is the key other than (1)?
refusal_number TrivialKey = 45
-- Is the offset of a place below m − deg Q?
refusal_number OffsetTooLarge = 46
