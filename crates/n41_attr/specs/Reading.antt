-- Own: what a call that reads answers, where it may find no memory, and what a call that writes leaves.
use Rattle.std.specs.Prelude.{◌≡◌, ℕ, List, ◌++◌, length, take, Result, Ok, Err}
use Rattle.n41_attr.specs.declared.fault.AttrFault.{AttrFault}
use Rattle.n41_attr.specs.declared.fault.BitmapFault.{BitmapFault}
use Rattle.n41_attr.specs.declared.fault.AttrFault.TheVariants as attr
use Rattle.n41_attr.specs.declared.fault.BitmapFault.TheVariants as bitmap

-- The answer, seen by view, is what reading gives, unless memory runs out; after any fault nothing is taken.
abbrev pub ReadsBitmap : {X Y : Type 0} → (X → Y) → Result X BitmapFault → List ℕ → List ℕ → Result (Y × List ℕ) BitmapFault → Type 0
ReadsBitmap view (Ok x) old new read = read ≡ Ok (view x, new)
ReadsBitmap view (Err bitmap.NoMemory) old new read = new ≡ old
ReadsBitmap view (Err (bitmap.Xdr f)) old new read = (read ≡ Err (bitmap.Xdr f)) × (new ≡ old)

abbrev pub ReadsAttrs : {X Y : Type 0} → (X → Y) → Result X AttrFault → List ℕ → List ℕ → Result (Y × List ℕ) AttrFault → Type 0
ReadsAttrs view (Ok x) old new read = read ≡ Ok (view x, new)
ReadsAttrs view (Err attr.NoMemory) old new read = new ≡ old
ReadsAttrs view (Err (attr.Xdr f)) old new read = (read ≡ Err (attr.Xdr f)) × (new ≡ old)
ReadsAttrs view (Err (attr.Unknown n)) old new read = (read ≡ Err (attr.Unknown n)) × (new ≡ old)
ReadsAttrs view (Err attr.Length) old new read = (read ≡ Err attr.Length) × (new ≡ old)

-- the same, where nothing is said of what is taken by a fault
abbrev pub GivesBitmap : {X Y : Type 0} → (X → Y) → Result X BitmapFault → List ℕ → Result (Y × List ℕ) BitmapFault → Type 0
GivesBitmap view (Ok x) new read = read ≡ Ok (view x, new)
GivesBitmap view (Err bitmap.NoMemory) new read = Unit {0}
GivesBitmap view (Err (bitmap.Xdr f)) new read = read ≡ Err (bitmap.Xdr f)

abbrev pub GivesAttrs : {X Y : Type 0} → (X → Y) → Result X AttrFault → List ℕ → Result (Y × List ℕ) AttrFault → Type 0
GivesAttrs view (Ok x) new read = read ≡ Ok (view x, new)
GivesAttrs view (Err attr.NoMemory) new read = Unit {0}
GivesAttrs view (Err (attr.Xdr f)) new read = read ≡ Err (attr.Xdr f)
GivesAttrs view (Err (attr.Unknown n)) new read = read ≡ Err (attr.Unknown n)
GivesAttrs view (Err attr.Length) new read = read ≡ Err attr.Length

-- the same, where no memory is needed
abbrev pub Gives : {X E : Type 0} → Result X E → List ℕ → Result (X × List ℕ) E → Type 0
Gives (Ok x) new read = read ≡ Ok (x, new)
Gives (Err e) new read = read ≡ Err e

-- What is left by a write: the text behind what was there, or, where memory runs out, what was there and perhaps a part of the text.
abbrev pub Writes : {X E : Type 0} → Result X E → List ℕ → List ℕ → List ℕ → Type 0
Writes (Ok _) old new text = new ≡ old ++ text
Writes (Err _) old new text = take (length old) new ≡ old
