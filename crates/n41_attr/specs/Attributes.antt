-- Attributes: a bitmap, and in one opaque the values whose bits are set, in rising order of their numbers (RFC 8881, fattr4).
use Rattle.std.specs.Prelude.{◌≡◌, ◌<◌, ◌^◌, ◌+◌, ◌++◌, ◌==◌, ◌&&◌, not, ℕ, List, [], ◌∷◌, length, Bool, true, false, Option, Some, None, Result, Ok, Err, nat_lt, is_some, if◌then◌else◌, IfSome}
use Rattle.n41_xdr.specs.declared.fault.XdrFault.{XdrFault}
use Rattle.n41_xdr.specs.declared.fault.XdrFault.TheVariants.{TooLong}
use Rattle.n41_xdr.specs.Reading.{◌>>=◌, opaque_at}
use Rattle.n41_xdr.specs.Spelling as spelling
use Rattle.n41_xdr.specs.Format.{Format, ◌&◌, dependent, given, refused, mapped, lifted, fault_as, made, word, hyper}
use Rattle.n41_types.specs.declared.attributes.Attrs.{Attrs}
use Rattle.n41_attr.specs.declared.fault.AttrFault.{AttrFault}
use Rattle.n41_attr.specs.declared.fault.AttrFault.TheVariants.{Xdr, Unknown, Length}
use Rattle.n41_attr.specs.Bitmaps.{bitmap, has, least, least_unknown}

-- ---- the values

-- a value that is there where b says so
abbrev pub when_text : {A : Type 0} → (A → List ℕ) → Option A → List ℕ
when_text spell None = []
when_text spell (Some x) = spell x

abbrev pub WhenFits : {A : Type 0} → Bool → (A → Type 0) → Option A → Type 0
WhenFits b Fits None = b ≡ false
WhenFits b Fits (Some x) = (b ≡ true) × Fits x

abbrev pub when : {E A : Type 0} → Bool → Format E A → Format E (Option A)
when b p = record {
  read = λ bytes. if b then made (λ x. Some x) p bytes else Ok (None, bytes);
  spell = when_text p.spell;
  Fits = WhenFits b p.Fits;
}

unfoldable pub values : List ℕ → Format XdrFault Attrs
values mask =
    mapped
    (λ x. record { kind = x.0; change = x.1.0; size = x.1.1.0; lease = x.1.1.1.0; fileid = x.1.1.1.1.0; mode = x.1.1.1.1.1 })
    (λ a. (a.kind, (a.change, (a.size, (a.lease, (a.fileid, a.mode))))))
    (when (has mask 1) word & when (has mask 3) hyper & when (has mask 4) hyper & when (has mask 10) word & when (has mask 20) hyper & when (has mask 33) word)

-- how the values that are there are written
abbrev pub first_text : Attrs → List ℕ
first_text a = when_text word.spell a.kind ++ when_text hyper.spell a.change ++ when_text hyper.spell a.size

abbrev pub last_text : Attrs → List ℕ
last_text a = when_text word.spell a.lease ++ when_text hyper.spell a.fileid ++ when_text word.spell a.mode

abbrev pub values_text : Attrs → List ℕ
values_text a = first_text a ++ last_text a

-- ---- the bitmap and the values

-- all the bytes are the value's
abbrev pub whole : {A : Type 0} → Result (A × List ℕ) XdrFault → Result A AttrFault
whole (Ok x) = if length x.1 == 0 then Ok x.0 else Err Length
whole (Err f) = Err Length

-- in an opaque, which has nothing else
abbrev pub enclosed : {A : Type 0} → Format XdrFault A → Format AttrFault A
enclosed p = record {
  read = λ bytes. fault_as Xdr (opaque_at 4294967295 bytes) >>= λ body. whole (p.read body.0) >>= λ a. Ok (a, body.1);
  spell = λ a. spelling.opaque (p.spell a);
  Fits = λ a. p.Fits a × (length (p.spell a) < 2 ^ 32);
}

-- the fault for an attribute that is not known; a bit beyond the last number of 32 bits makes the bitmap too long (own)
abbrev pub unknown_fault : List ℕ → ℕ → AttrFault
unknown_fault mask n = if nat_lt n 4294967296 then Unknown n else Xdr (TooLong (length mask) 134217728)

-- p, where the bitmap has no unknown attribute
abbrev pub all_known : {A : Type 0} → List ℕ → Option ℕ → Format AttrFault A → Format AttrFault A
all_known mask unknown p = record {
  read = λ bytes. elim unknown [ None ↦ p.read bytes | Some n ↦ Err (unknown_fault mask n) ];
  spell = p.spell;
  Fits = λ a. (unknown ≡ None) × p.Fits a;
}

-- attributes as they are told: zero words may stand at the end of the bitmap
pub record Told : Type 0 where
  pub mask : List ℕ
  pub attrs : Attrs

unfoldable pub behind : List ℕ → Format AttrFault Told
behind mask =
    mapped (λ x. record { mask = x.0; attrs = x.1 }) (λ t. (t.mask, t.attrs)) (given mask & all_known mask (least_unknown mask) (enclosed (values mask)))

unfoldable pub told : Format AttrFault Told
told = dependent (lifted Xdr bitmap) (λ t. t.mask) behind

abbrev pub attrs_of : Told → Attrs
attrs_of t = t.attrs

-- ---- what is written

abbrev pub bit_if : {A : Type 0} → Option A → ℕ → ℕ
bit_if value bit = if is_some value then bit else 0

abbrev pub first_word : Attrs → ℕ
first_word a = bit_if a.kind 2 + (bit_if a.change 8 + (bit_if a.size 16 + (bit_if a.lease 1024 + bit_if a.fileid 1048576)))

-- the fewest words that have the attributes
abbrev pub mask_of : Attrs → List ℕ
mask_of a = if is_some a.mode then first_word a ∷ 2 ∷ [] else if first_word a == 0 then [] else first_word a ∷ []

abbrev pub written : Attrs → Told
written a = record { mask = mask_of a; attrs = a }

-- the values are numbers of 32 or 64 bits
abbrev pub AttrsFit : Attrs → Type 0
AttrsFit a =
    IfSome a.kind (λ n. n < 2 ^ 32) × IfSome a.change (λ n. n < 2 ^ 64) × IfSome a.size (λ n. n < 2 ^ 64) ×
    IfSome a.lease (λ n. n < 2 ^ 32) × IfSome a.fileid (λ n. n < 2 ^ 64) × IfSome a.mode (λ n. n < 2 ^ 32)

-- ---- what was asked for

abbrev pub is_told : Attrs → ℕ → Bool
is_told a n =
    if n == 1 then is_some a.kind else if n == 3 then is_some a.change else if n == 4 then is_some a.size else
    if n == 10 then is_some a.lease else if n == 20 then is_some a.fileid else if n == 33 then is_some a.mode else false

-- the least attribute that is told and not in the bitmap; no number above 33 is told
abbrev pub least_unasked : Attrs → List ℕ → Option ℕ
least_unasked a mask = least (λ n. is_told a n && not (has mask n)) 0 34

abbrev pub refusal : Option ℕ → Result (Unit {0}) ℕ
refusal None = Ok tt
refusal (Some n) = Err n
