-- An answer that is written is read as the same.
use Rattle.std.proofs.Common.{◌≡◌, ◌<◌, ◌^◌, ℕ, Option, Bool, true, false, List, [], ◌∷◌, ◌++◌, length, map, All, Result, Ok, refl, ap, ◌∙◌}
use Rattle.std.specs.Prelude.{codes}
use Rattle.std.specs.Fmt.{decimal}
use Rattle.std.proofs.lemmas.List.Elements.{All-head, All-tail}
use Rattle.n41_types.specs.declared.commands.Answer.{Answer}
use Rattle.n41_types.specs.declared.commands.Answer.TheVariants as says
use Rattle.n41_types.specs.declared.commands.Value.{Value}
use Rattle.n41_types.specs.declared.commands.Value.TheVariants as value
use Rattle.hex.specs.Hex.{IsBytes}
use Rattle.n41_calls.specs.Text.{hex_or_dash, decimal_or_dash, mode_text, name_text}
use Rattle.n41_xdr.specs.Reading.{◌>>=◌}
use Rattle.n41_words.specs.Words.{has_control}
use Rattle.n41_words.specs.declared.fault.LineKind.{LineKind}
use Rattle.n41_journal_text.specs.Words.{end_word, more_words, value_words, answer_words, IsToldName, IsLegibleValue, IsLegibleAnswer}
use Rattle.n41_journal_text.proofs.Plain.{optional_plain, mode_plain, data_plain, name_plain}
use Rattle.n41_journal_words.specs.Reading.{last_at}
use Rattle.n41_journal_words.specs.Names.{name_of}
use Rattle.n41_journal_words.specs.Answers.{number32, number64, or_dash, mode as mode_form, data_bytes, is_last, numbered, data_of, stat_of, names_at, more_at, names_of, answer_of}
use Rattle.n41_journal_back.proofs.Names.{name_back}
use Rattle.n41_journal_back.proofs.Forms.{at_word, at_last, at_field, clean32, clean64, number32_back, number64_back, at64, last32, last64, optional_back, mode_back, data_back}

-- ---- numbers

numbered32 : (answer : ℕ → Answer) (n : ℕ) → n < 2 ^ 32 → numbered number32 answer (decimal n ∷ []) ≡ Ok (answer n)
numbered32 answer n small = ap (λ (r : Result ℕ LineKind). r >>= λ n. Ok (answer n)) (last32 n small)

numbered64 : (answer : ℕ → Answer) (n : ℕ) → n < 2 ^ 64 → numbered number64 answer (decimal n ∷ []) ≡ Ok (answer n)
numbered64 answer n small = ap (λ (r : Result ℕ LineKind). r >>= λ n. Ok (answer n)) (last64 n small)

-- ---- data

end_clean : (last : Bool) → has_control (end_word last) ≡ false
end_clean true = refl
end_clean false = refl

end_back : (last : Bool) → is_last (end_word last) ≡ Ok last
end_back true = refl
end_back false = refl

data_is : (bytes : List ℕ) (last : Bool) → IsBytes bytes → data_of (hex_or_dash bytes ∷ end_word last ∷ []) ≡ Ok (says.Done (value.Got bytes last))
data_is bytes last fits =
    ap (λ (r : Result (List ℕ × List (List ℕ)) LineKind). r >>= λ b. last_at is_last b.1 >>= λ last. Ok (says.Done (value.Got b.0 last)))
    (at_word data_bytes (hex_or_dash bytes) (end_word last ∷ []) bytes (data_plain bytes fits).plain (data_back bytes fits))
    ∙ ap (λ (r : Result Bool LineKind). r >>= λ last. Ok (says.Done (value.Got bytes last))) (at_last is_last (end_word last) last (end_clean last) (end_back last))

-- ---- attributes

stat_is : (kind size : ℕ) (fileid mode : Option ℕ) → IsLegibleValue (value.Stat kind size fileid mode) →
    stat_of (codes "type" ∷ decimal kind ∷ codes "size" ∷ decimal size ∷ codes "fileid" ∷ decimal_or_dash fileid ∷ codes "mode" ∷ mode_text mode ∷ []) ≡ Ok (says.Done (value.Stat kind size fileid mode))
stat_is kind size fileid mode h =
    let a = at_field (codes "type") number32 (decimal kind) (codes "size" ∷ decimal size ∷ codes "fileid" ∷ decimal_or_dash fileid ∷ codes "mode" ∷ mode_text mode ∷ []) kind refl (clean32 kind h.0) (number32_back kind h.0) in
    let b = at_field (codes "size") number64 (decimal size) (codes "fileid" ∷ decimal_or_dash fileid ∷ codes "mode" ∷ mode_text mode ∷ []) size refl (clean64 size h.1) (number64_back size h.1) in
    let c = at_field (codes "fileid") (or_dash number64) (decimal_or_dash fileid) (codes "mode" ∷ mode_text mode ∷ []) fileid refl (optional_plain fileid h.2).plain (optional_back fileid h.2) in
    let d = at_field (codes "mode") (or_dash mode_form) (mode_text mode) [] mode refl (mode_plain mode h.3).plain (mode_back mode h.3) in
    rw (a, b, c, d) refl

-- ---- names

names_back : (names : List (List ℕ)) (rest : List (List ℕ)) → All IsToldName names → names_at (length names) (map name_text names ++ rest) ≡ Ok (names, rest)
names_back [] rest h = refl
names_back (n ∷ ns) rest h =
    let name = All-head IsToldName n ns h in
    rw (at_word name_of (name_text n) (map name_text ns ++ rest) n (name_plain n name.0 name.1).plain (name_back n name.0), names_back ns rest (All-tail IsToldName n ns h)) refl

more_back : (more : Bool) → more_at (more_words more) ≡ (more, [])
more_back true = refl
more_back false = refl

names_are : (names : List (List ℕ)) (more : Bool) → length names < 2 ^ 64 → All IsToldName names →
    names_of (decimal (length names) ∷ (map name_text names ++ more_words more)) ≡ Ok (says.Done (value.Names names more))
names_are names more small h = rw (at64 (length names) (map name_text names ++ more_words more) small, names_back names (more_words more) h, more_back more) refl

-- ---- all of them

value_back : (x : Value) → IsLegibleValue x → answer_of (value_words x) ≡ Ok (says.Done x)
value_back (value.Got bytes last) h = data_is bytes last h
value_back (value.Wrote n) h = numbered32 (λ n. says.Done (value.Wrote n)) n h
value_back (value.Stat kind size fileid mode) h = stat_is kind size fileid mode h
value_back (value.Names names more) h = names_are names more h.0 h.1
value_back _ h = refl

pub answer_back : (a : Answer) → IsLegibleAnswer a → answer_of (answer_words a) ≡ Ok a
answer_back (says.Done x) h = value_back x h
answer_back (says.Refused s) h = numbered32 (λ n. says.Refused (record { 0 = n })) s.0 h
answer_back (says.StateLost l) h = numbered32 (λ n. says.StateLost (record { 0 = record { 0 = n } })) l.0.0 h
answer_back (says.Unreachable n) h = numbered64 (λ n. says.Unreachable n) n h
answer_back (says.Breach p) h = numbered64 (λ p. says.Breach p) p h
answer_back _ h = refl
