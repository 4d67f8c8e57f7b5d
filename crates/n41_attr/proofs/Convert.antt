-- A fault of a bitmap or of attributes is seen as that of the operation.
use Rattle.std.proofs.Common.{◌≡◌, ℕ, List, Result, Ok, Err, refl, ap}
use Rattle.n41_xdr.specs.declared.fault.XdrFault.{XdrFault}
use Rattle.n41_xdr.specs.Reading.{◌>>=◌}
use Rattle.n41_xdr.specs.Format.{fault_as}
use Rattle.n41_types.specs.declared.attributes.Attrs.{Attrs}
use Rattle.n41_attr.specs.declared.fault.AttrFault.{AttrFault}
use Rattle.n41_attr.specs.declared.fault.BitmapFault.{BitmapFault}
use Rattle.n41_attr.specs.declared.fault.OpFault.{OpFault}
use Rattle.n41_attr.specs.declared.fault.AttrFault.TheVariants as attr
use Rattle.n41_attr.specs.declared.fault.BitmapFault.TheVariants as bitmap
use Rattle.n41_attr.specs.declared.fault.OpFault.TheVariants as op
use Rattle.n41_attr.specs.Faults.{op_of_attr, op_of_bitmap}
use Rattle.n41_attr.specs.Attributes.{Told, attrs_of}
use Rattle.n41_attr.specs.Reading.{ReadsBitmap, ReadsAttrs}
use Rattle.n41_attr.specs.Operations.{Gives}

pub bitmap_ok : (read : Result (List ℕ × List ℕ) XdrFault) (x : List ℕ × List ℕ) → fault_as (λ f. bitmap.Xdr f) read ≡ Ok x → fault_as (λ f. op.Xdr f) read ≡ Ok x
bitmap_ok (Ok y) x e = cc
bitmap_ok (Err f) x e = absurd cc

bitmap_err : (read : Result (List ℕ × List ℕ) XdrFault) (f : XdrFault) → fault_as (λ f. bitmap.Xdr f) read ≡ Err (bitmap.Xdr f) → fault_as (λ f. op.Xdr f) read ≡ Err (op.Xdr f)
bitmap_err (Ok y) f e = absurd cc
bitmap_err (Err g) f e = cc

pub bitmap_fails : {X : Type 0} (view : X → List ℕ) (fault : BitmapFault) (old new : List ℕ) (read : Result (List ℕ × List ℕ) XdrFault)
    → ReadsBitmap {X = X} {Y = List ℕ} view (Err fault) old new (fault_as (λ f. bitmap.Xdr f) read) → Gives {X = X} {Y = List ℕ} view (Err (op_of_bitmap fault)) new (fault_as (λ f. op.Xdr f) read)
bitmap_fails view (bitmap.Xdr f) old new read h = bitmap_err read f h.0
bitmap_fails view bitmap.NoMemory old new read h = tt

abbrev kept_attrs : {E : Type 0} → Result (Told × List ℕ) E → Result (Attrs × List ℕ) E
kept_attrs read = read >>= λ t. Ok (attrs_of t.0, t.1)

pub attrs_ok : (read : Result (Told × List ℕ) AttrFault) (x : Attrs × List ℕ) → kept_attrs read ≡ Ok x → kept_attrs (fault_as op_of_attr read) ≡ Ok x
attrs_ok (Ok t) x e = cc
attrs_ok (Err f) x e = absurd cc

attrs_err : (read : Result (Told × List ℕ) AttrFault) (f : AttrFault) → kept_attrs read ≡ Err f → kept_attrs (fault_as op_of_attr read) ≡ Err (op_of_attr f)
attrs_err (Ok t) f e = absurd cc
attrs_err (Err g) f e =
    let same : g ≡ f = cc in
    ap (λ (d : AttrFault). let r : Result (Attrs × List ℕ) OpFault = Err (op_of_attr d) in r) same

pub attrs_fail : (fault : AttrFault) (old new : List ℕ) (read : Result (Told × List ℕ) AttrFault)
    → ReadsAttrs {X = Attrs} {Y = Attrs} (λ a. a) (Err fault) old new (kept_attrs read) → Gives {X = Attrs} {Y = Attrs} (λ a. a) (Err (op_of_attr fault)) new (kept_attrs (fault_as op_of_attr read))
attrs_fail (attr.Xdr f) old new read h = attrs_err read (attr.Xdr f) h.0
attrs_fail (attr.Unknown n) old new read h = attrs_err read (attr.Unknown n) h.0
attrs_fail attr.Length old new read h = attrs_err read attr.Length h.0
attrs_fail attr.NoMemory old new read h = tt
