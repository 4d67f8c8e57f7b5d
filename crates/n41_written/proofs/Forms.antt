-- Each word of a command that is written is read as the same.
use Rattle.std.proofs.Common.{◌≡◌, ◌≢◌, ◌<◌, ◌≤◌, ◌-◌, ◌^◌, ◌==◌, ℕ, Bool, true, false, List, [], ◌∷◌, ◌++◌, length, codes, Option, Some, None, Result, Ok, Err, if◌then◌else◌, nat_le, arith, refl, ap, ◌∙◌, sym, subst, inl, inr}
use Rattle.std.specs.Cmp.Lexicographic.{bytes_decides}
use Rattle.std.specs.Fmt.{decimal}
use Rattle.std.specs.List.{list_all, list_any, flat_map, slice_split, onto_first}
use Rattle.std.proofs.lemmas.Bool.{cases_Bool, and_parts, or_from, eqb-true, le-leb, leb-true}
use Rattle.std.proofs.lemmas.Bool.Decides.{nat_tests}
use Rattle.std.proofs.lemmas.List.Sums.{list_all-from_AllPass}
use Rattle.hex.specs.declared.error.FromHexError.{FromHexError}
use Rattle.hex.specs.Hex.{encode_lower, decode_of, is_hex_digit}
use Rattle.hex.proofs.HexLemmas.{decode_of-encode_lower, decode_of-ok}
use Rattle.n41_types.specs.declared.spans.LockKind.{LockKind}
use Rattle.n41_types.specs.declared.spans.LockKind.TheVariants as locks
use Rattle.n41_types.specs.declared.spans.Mode.{Mode}
use Rattle.n41_types.specs.declared.spans.Mode.TheVariants as mode
use Rattle.n41_words.specs.Lines.{is_empty, is_space}
use Rattle.n41_words.specs.Words.{is_control, has_control, same}
use Rattle.n41_words.specs.Numbers.{number, hex_bytes, of_hex}
use Rattle.n41_words.specs.declared.fault.LineKind.{LineKind}
use Rattle.n41_words.specs.declared.fault.LineKind.TheVariants as kind
use Rattle.n41_written.proofs.ReadBack.{decimal_only}
use Rattle.n41_written.proofs.HexBack.{bytes_read, bytes_some}
use Rattle.n41_commands.specs.Paths.{path, target, steps, named, path_text}
use Rattle.n41_commands.specs.Commands.{label, mode_of, kind_of, offset, from_one, count, seconds, some, extent, payload, digit_limit}
use Rattle.n41_written.specs.Written.{mode_text, kind_text, extent_text}
use Rattle.n41_written.proofs.Words.{IsPlain}

-- what a word says is written as a word that says it
abbrev pub ReadsBack : {X : Type 0} → (List ℕ → Result X LineKind) → (X → List ℕ) → Type 0
ReadsBack {X} form text = (w : List ℕ) (x : X) → IsPlain w → form w ≡ Ok x → IsPlain (text x) × (form (text x) ≡ Ok x)

-- it is the same word
by_itself : {X : Type 0} (form : List ℕ → Result X LineKind) (text : X → List ℕ) → ((w : List ℕ) (x : X) → form w ≡ Ok x → w ≡ text x) → ReadsBack form text
by_itself form text same w x g h = let e = same w x h in (subst IsPlain e g, ap form (sym e) ∙ h)

-- what a test says of a value that is given where it holds
only_if : {X : Type 0} (b : Bool) (x y : X) (k : LineKind) → (if b then Ok x else Err k) ≡ Ok y → (b ≡ true) × (x ≡ y)
only_if true x y k h = (refl, cc)
only_if false x y k h = absurd cc

-- ---- labels

pub label_back : ReadsBack label (λ l. l)
label_back = by_itself label (λ l. l) (λ w l h. (only_if _ w l _ h).1)

-- ---- words of a list

is_same : (w other : List ℕ) → same w other ≡ true → w ≡ other
is_same w other e = (bytes_decides w other).0 e

mode_is : (w : List ℕ) (m : Mode) → mode_of w ≡ Ok m → w ≡ mode_text m
mode_is w m h = elim (cases_Bool (same w (codes "r"))) [
  | inl e ↦ let f : mode.Read ≡ m = (only_if true mode.Read m kind.Command (rw e at h)).1 in is_same w (codes "r") e ∙ ap mode_text f
  | inr e ↦ elim (cases_Bool (same w (codes "w"))) [
    | inl d ↦ let f : mode.Write ≡ m = (only_if true mode.Write m kind.Command (rw (e, d) at h)).1 in is_same w (codes "w") d ∙ ap mode_text f
    | inr d ↦ let f = only_if (same w (codes "rw")) mode.Both m kind.Command (rw (e, d) at h) in is_same w (codes "rw") f.0 ∙ ap mode_text f.1
  ]
]

pub mode_back : ReadsBack mode_of mode_text
mode_back = by_itself mode_of mode_text mode_is

kind_is : (w : List ℕ) (k : LockKind) → kind_of w ≡ Ok k → w ≡ kind_text k
kind_is w k h = elim (cases_Bool (same w (codes "r"))) [
  | inl e ↦ let f : locks.Read ≡ k = (only_if true locks.Read k kind.Command (rw e at h)).1 in is_same w (codes "r") e ∙ ap kind_text f
  | inr e ↦ let f = only_if (same w (codes "w")) locks.Write k kind.Command (rw e at h) in is_same w (codes "w") f.0 ∙ ap kind_text f.1
]

pub kind_back : ReadsBack kind_of kind_text
kind_back = by_itself kind_of kind_text kind_is

-- ---- numbers

number_is : (limit : ℕ) → limit ≤ 2 ^ 64 → (w : List ℕ) (n : ℕ) → number limit w ≡ Ok n → w ≡ decimal n
number_is limit small w n h = (decimal_only limit n w small h).1

pub offset_back : ReadsBack offset decimal
offset_back = by_itself offset decimal (number_is (2 ^ 64) (omega arith))

pub seconds_back : ReadsBack seconds decimal
seconds_back = by_itself seconds decimal (number_is 601 (omega arith))

one_at_least : (r : Result ℕ LineKind) (n : ℕ) → from_one r ≡ Ok n → r ≡ Ok n
one_at_least (Ok m) n h = ap Ok (only_if _ m n _ h).1
one_at_least (Err k) n h = absurd cc

pub count_back : ReadsBack count decimal
count_back = by_itself count decimal (λ w n h. number_is 65537 (omega arith) w n (one_at_least (number 65537 w) n h))

some_is : (w : List ℕ) (r : Result ℕ LineKind) (o : Option ℕ) → number (2 ^ 64 - 1) w ≡ r → some r ≡ Ok o → w ≡ extent_text o
some_is w (Ok n) o e h = let f : Some n ≡ o = cc in number_is (2 ^ 64 - 1) (omega arith) w n e ∙ ap extent_text f
some_is w (Err k) o e h = absurd cc

none_is : (r : Result (Option ℕ) LineKind) (o : Option ℕ) → r ≡ Ok None → r ≡ Ok o → None ≡ o
none_is r o e h = cc

extent_is : (w : List ℕ) (o : Option ℕ) → extent w ≡ Ok o → w ≡ extent_text o
extent_is w o h = elim (cases_Bool (same w (codes "eof"))) [
  | inl e ↦ is_same w (codes "eof") e ∙ ap extent_text (none_is (extent w) o (rw e refl) h)
  | inr e ↦ some_is w (number (2 ^ 64 - 1) w) o refl (rw e at h)
]

pub extent_back : ReadsBack extent extent_text
extent_back = by_itself extent extent_text extent_is

-- ---- paths

abbrev behind_slash : List ℕ → List ℕ
behind_slash name = 47 ∷ name

abbrev is_slash : ℕ → Bool
is_slash c = c == 47

put_front : (b : ℕ) (bs : List ℕ) (names : List (List ℕ)) → flat_map behind_slash names ≡ 47 ∷ bs → flat_map behind_slash (onto_first b names) ≡ 47 ∷ b ∷ bs
put_front b bs [] h = absurd cc
put_front b bs (n ∷ ns) h = let e : n ++ flat_map behind_slash ns ≡ bs = cc in ap (λ (xs : List ℕ). 47 ∷ b ∷ xs) e

joined : (bs : List ℕ) → flat_map behind_slash (slice_split is_slash bs) ≡ 47 ∷ bs
joined [] = refl
joined (b ∷ bs) = elim (cases_Bool (b == 47)) [
  | inl e ↦ rw e (ap (λ (xs : List ℕ). 47 ∷ xs) (joined bs ∙ ap (λ (c : ℕ). c ∷ bs) (sym (eqb-true b 47 e))))
  | inr e ↦ rw e (put_front b bs (slice_split is_slash bs) (joined bs))
]

text_of : (names : List (List ℕ)) (bs : List ℕ) → flat_map behind_slash names ≡ 47 ∷ bs → path_text names ≡ 47 ∷ bs
text_of [] bs h = absurd cc
text_of (n ∷ ns) bs h = h

steps_are : (bs : List ℕ) (names : List (List ℕ)) → steps bs ≡ Ok names → 47 ∷ bs ≡ path_text names
steps_are [] names h = let f : [] ≡ names = cc in ap path_text f
steps_are (b ∷ bs) names h =
    let f = only_if _ (slice_split is_slash (b ∷ bs)) names _ h in
    sym (text_of (slice_split is_slash (b ∷ bs)) (b ∷ bs) (joined (b ∷ bs))) ∙ ap path_text f.1

path_is : (w : List ℕ) (names : List (List ℕ)) → path w ≡ Ok names → w ≡ path_text names
path_is [] names h = absurd cc
path_is (b ∷ bs) names h = elim (cases_Bool (b == 47)) [
  | inl e ↦ ap (λ (c : ℕ). c ∷ bs) (eqb-true b 47 e) ∙ steps_are bs names (rw e at h)
  | inr e ↦ absurd (let f = rw e at h in cc)
]

pub path_back : ReadsBack path path_text
path_back = by_itself path path_text path_is

target_is : (r : Result (List (List ℕ)) LineKind) (names : List (List ℕ)) → named r ≡ Ok names → r ≡ Ok names
target_is (Ok []) names h = absurd cc
target_is (Ok (n ∷ ns)) names h = h
target_is (Err k) names h = h

pub target_back : ReadsBack target path_text
target_back = by_itself target path_text (λ w names h. path_is w names (target_is (path w) names h))

-- ---- bytes

plain_digit : (c : ℕ) → is_hex_digit c ≡ true → (is_space c ≡ false) × (is_control c ≡ false)
plain_digit c h = grind (arith, nat_tests)

plain_digits : (ds : List ℕ) → list_all is_hex_digit ds ≡ true → (list_any is_space ds ≡ false) × (has_control ds ≡ false)
plain_digits [] h = (refl, refl)
plain_digits (c ∷ cs) h =
    let parts = and_parts (is_hex_digit c) (list_all is_hex_digit cs) h in
    let d = plain_digit c parts.0 in
    let rest = plain_digits cs parts.1 in
    (or_from (is_space c) (list_any is_space cs) d.0 rest.0, or_from (is_control c) (has_control cs) d.1 rest.1)

filled : (w : List ℕ) → 0 < length w → is_empty w ≡ false
filled [] h = absurd (omega arith)
filled (b ∷ bs) h = refl

some_bytes : (bytes : List ℕ) → bytes ≢ [] → 0 < length bytes
some_bytes [] h = absurd (h refl)
some_bytes (b ∷ bs) h = omega arith

only_where : {X : Type 0} (b : Bool) (r : Result X LineKind) (y : X) (k : LineKind) → (if b then r else Err k) ≡ Ok y → (b ≡ true) × (r ≡ Ok y)
only_where true r y k h = (refl, h)
only_where false r y k h = absurd cc

decodes : (r : Result (List ℕ) FromHexError) (bytes : List ℕ) → of_hex r ≡ Ok bytes → r ≡ Ok bytes
decodes (Ok xs) bytes h = let e : xs ≡ bytes = cc in ap Ok e
decodes (Err f) bytes h = absurd cc

decoded : (w bytes : List ℕ) → hex_bytes w ≡ Ok bytes → decode_of w ≡ Ok bytes
decoded [] bytes h = absurd cc
decoded (b ∷ bs) bytes h = decodes (decode_of (b ∷ bs)) bytes h

pub payload_back : ReadsBack payload encode_lower
payload_back w bytes g h =
    let text : List ℕ = encode_lower bytes in
    let f = only_where (nat_le (length w) digit_limit) (hex_bytes w) bytes kind.Hex h in
    let k = bytes_some w bytes f.1 in
    let d = decode_of-ok w bytes (decoded w bytes f.1) in
    let e = decode_of-ok text bytes (decode_of-encode_lower bytes k.0) in
    let p = plain_digits text (list_all-from_AllPass is_hex_digit text e.1) in
    let short : length text ≤ digit_limit = omega (arith, leb-true (length w) digit_limit f.0, d.2, e.2) in
    let some : 0 < length text = omega (arith, e.2, some_bytes bytes k.1) in
    (record { word = record { filled = filled text some; whole = p.0 }; plain = p.1 }, rw (le-leb (length text) digit_limit short) (bytes_read bytes k.0 k.1))
