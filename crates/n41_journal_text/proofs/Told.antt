-- The words of each event.
use Rattle.std.proofs.Common.{◌≡◌, ◌<◌, ◌^◌, ℕ, Bool, true, false, List, [], ◌∷◌, ◌++◌, length, map, All, Option, arith, refl, append_assoc}
use Rattle.std.specs.Prelude.{codes}
use Rattle.std.specs.Fmt.{decimal}
use Rattle.std.specs.List.{flat_map, list_any}
use Rattle.std.proofs.lemmas.List.{append-nil}
use Rattle.std.proofs.lemmas.List.Elements.{All-head, All-tail}
use Rattle.n41_types.specs.declared.commands.Answer.{Answer}
use Rattle.n41_types.specs.declared.commands.Answer.TheVariants as says
use Rattle.n41_types.specs.declared.commands.Value.{Value}
use Rattle.n41_types.specs.declared.commands.Value.TheVariants as value
use Rattle.n41_journal.specs.declared.events.Cause.{Cause}
use Rattle.n41_journal.specs.declared.events.Cause.TheVariants as cause
use Rattle.n41_journal.specs.declared.events.Event.{Event}
use Rattle.n41_journal.specs.declared.events.Event.TheVariants as event
use Rattle.n41_calls.specs.Text.{hex_or_dash, decimal_or_dash, mode_text, name_text, more_text, value_text}
use Rattle.hex.specs.Hex.{IsBytes}
use Rattle.n41_words.specs.Lines.{is_empty, is_space}
use Rattle.n41_words.specs.Words.{has_control}
use Rattle.n41_written.specs.Written.{◌·◌}
use Rattle.n41_written.proofs.Words.{IsPlain}
use Rattle.n41_journal_text.specs.Text.{cause_text, answer_text, message_text, event_text}
use Rattle.n41_journal_text.specs.Words.{cause_words, end_word, more_words, value_words, answer_words, message_words, event_words, IsToldName, IsLegibleValue, IsLegibleAnswer, IsLegibleCause, IsPlaced, IsLegible}
use Rattle.n41_journal_text.proofs.Plain.{decimal_plain, optional_plain, mode_plain, hex_plain, data_plain, name_plain}
use Rattle.n41_journal_text.proofs.Says.{Says, says_one, says_more, says_as}
use Rattle.n41_journal_text.proofs.Filled.{request_some, reply_some, callback_some, callback_reply_some}
use Rattle.n41_journal_text.proofs.Commands.{command_says}

-- a word that is written out
written_out : (w : List ℕ) → is_empty w ≡ false → list_any is_space w ≡ false → has_control w ≡ false → IsPlain w
written_out w filled whole plain = record { word = record { filled = filled; whole = whole }; plain = plain }

-- a text of one word that is written out
alone : (w : List ℕ) → is_empty w ≡ false → list_any is_space w ≡ false → has_control w ≡ false → Says w (w ∷ [])
alone w filled whole plain = says_one w (written_out w filled whole plain)

-- a word that is written out, in front of a text
behind : (w : List ℕ) {rest : List ℕ} {ws : List (List ℕ)} → is_empty w ≡ false → list_any is_space w ≡ false → has_control w ≡ false → Says rest ws → Says (w · rest) (w ∷ ws)
behind w {rest} {ws} filled whole plain h = says_more w rest ws (written_out w filled whole plain) h

-- a number
number_says : (n : ℕ) → n < 2 ^ 64 → Says (decimal n) (decimal n ∷ [])
number_says n small = says_one (decimal n) (decimal_plain n small)

-- a number in front of a text
counted : (n : ℕ) {rest : List ℕ} {ws : List (List ℕ)} → n < 2 ^ 64 → Says rest ws → Says (decimal n · rest) (decimal n ∷ ws)
counted n {rest} {ws} small h = says_more (decimal n) rest ws (decimal_plain n small) h

wider : (n : ℕ) → n < 2 ^ 32 → n < 2 ^ 64
wider n small = omega (arith, small)

-- ---- causes

cause_says : (c : Cause) → IsLegibleCause c → Says (cause_text c) (cause_words c)
cause_says cause.Link h = alone (codes "link") refl refl refl
cause_says cause.Ended h = alone (codes "ended") refl refl refl
cause_says cause.BadRecord h = alone (codes "record") refl refl refl
cause_says cause.Garbled h = alone (codes "garbled") refl refl refl
cause_says (cause.Old xid) h = behind (codes "old") refl refl refl (number_says xid (wider xid h))
cause_says cause.NoMemory h = alone (codes "memory") refl refl refl

-- ---- answers

end_says : (last : Bool) → Says (end_word last) (end_word last ∷ [])
end_says true = alone (codes "end") refl refl refl
end_says false = alone (codes "more") refl refl refl

data_says : (bytes : List ℕ) (last : Bool) → IsBytes bytes → Says (codes "data" · (hex_or_dash bytes · end_word last)) (value_words (value.Got bytes last))
data_says bytes last fits =
    behind (codes "data") refl refl refl (says_more (hex_or_dash bytes) (end_word last) (end_word last ∷ []) (data_plain bytes fits) (end_says last))

-- the names, each behind a space, and whether there are more
names_behind : List (List ℕ) → Bool → List ℕ
names_behind names more = flat_map (λ n. codes " " ++ name_text n) names ++ more_text more

-- names behind a word
names_say : (w : List ℕ) (names : List (List ℕ)) (more : Bool) → IsPlain w → All IsToldName names → Says (w ++ names_behind names more) (w ∷ (map name_text names ++ more_words more))
unfolding names_behind
names_say w [] true h told = says_as (w · codes "more") _ _ (simp append_assoc) (says_more w (codes "more") (codes "more" ∷ []) h (alone (codes "more") refl refl refl))
names_say w [] false h told = says_as w _ (w ∷ []) (append-nil w) (says_one w h)
names_say w (n ∷ ns) more h told =
    let name = All-head IsToldName n ns told in
    let rest = names_say (name_text n) ns more (name_plain n name.0 name.1) (All-tail IsToldName n ns told) in
    says_as (w · (name_text n ++ names_behind ns more)) _ _ (simp append_assoc) (says_more w _ _ h rest)

-- ---- values

stat_parts : ℕ → ℕ → Option ℕ → Option ℕ → List ℕ
stat_parts kind size fileid mode =
    codes "stat" · (codes "type" · (decimal kind · (codes "size" · (decimal size · (codes "fileid" · (decimal_or_dash fileid · (codes "mode" · mode_text mode)))))))

stat_is : (kind size : ℕ) (fileid mode : Option ℕ) → value_text (value.Stat kind size fileid mode) ≡ stat_parts kind size fileid mode
unfolding stat_parts
stat_is kind size fileid mode = simp append_assoc

stat_says : (kind size : ℕ) (fileid mode : Option ℕ) → IsLegibleValue (value.Stat kind size fileid mode) → Says (stat_parts kind size fileid mode) (value_words (value.Stat kind size fileid mode))
unfolding stat_parts
stat_says kind size fileid mode h =
    behind (codes "stat") refl refl refl
    (behind (codes "type") refl refl refl
    (counted kind (wider kind h.0)
    (behind (codes "size") refl refl refl
    (counted size h.1
    (behind (codes "fileid") refl refl refl
    (says_more (decimal_or_dash fileid) _ _ (optional_plain fileid h.2)
    (behind (codes "mode") refl refl refl (says_one (mode_text mode) (mode_plain mode h.3)))))))))

names_are : (names : List (List ℕ)) (more : Bool) → value_text (value.Names names more) ≡ codes "names" · (decimal (length names) ++ names_behind names more)
unfolding names_behind
names_are names more = simp append_assoc

value_says : (x : Value) → IsLegibleValue x → Says (value_text x) (value_words x)
value_says value.Opened h = alone (codes "opened") refl refl refl
value_says (value.Got bytes true) h = says_as (codes "data" · (hex_or_dash bytes · codes "end")) _ _ (simp append_assoc) (data_says bytes true h)
value_says (value.Got bytes false) h = says_as (codes "data" · (hex_or_dash bytes · codes "more")) _ _ (simp append_assoc) (data_says bytes false h)
value_says (value.Wrote n) h = behind (codes "wrote") refl refl refl (number_says n (wider n h))
value_says value.Locked h = alone (codes "locked") refl refl refl
value_says value.Unlocked h = alone (codes "unlocked") refl refl refl
value_says value.Free h = alone (codes "free") refl refl refl
value_says value.Truncated h = alone (codes "truncated") refl refl refl
value_says value.Closed h = alone (codes "closed") refl refl refl
value_says (value.Stat kind size fileid mode) h = says_as (stat_parts kind size fileid mode) _ _ (stat_is kind size fileid mode) (stat_says kind size fileid mode h)
value_says (value.Names names more) h =
    says_as (codes "names" · (decimal (length names) ++ names_behind names more)) _ _ (names_are names more)
    (behind (codes "names") refl refl refl (names_say (decimal (length names)) names more (decimal_plain (length names) h.0) h.1))
value_says value.Made h = alone (codes "made") refl refl refl
value_says value.Removed h = alone (codes "removed") refl refl refl
value_says value.Renamed h = alone (codes "renamed") refl refl refl
value_says value.Paused h = alone (codes "paused") refl refl refl

answer_says : (a : Answer) → IsLegibleAnswer a → Says (answer_text a) (answer_words a)
answer_says (says.Done x) h = value_says x h
answer_says (says.Refused s) h = behind (codes "refused") refl refl refl (number_says s.0 (wider s.0 h))
answer_says says.Unknown h = alone (codes "unknown") refl refl refl
answer_says (says.StateLost l) h = behind (codes "lost") refl refl refl (number_says l.0.0 (wider l.0.0 h))
answer_says (says.Unreachable n) h = behind (codes "unreachable") refl refl refl (number_says n h)
answer_says says.NotOpen h = behind (codes "not") refl refl refl (alone (codes "open") refl refl refl)
answer_says (says.Breach p) h = behind (codes "breach") refl refl refl (number_says p h)

-- ---- events

message_says : (what : List ℕ) (conn place : ℕ) (bytes : List ℕ) → IsPlain what → IsPlaced conn place bytes → (bytes ≡ [] → ⊥) → Says (message_text what conn place bytes) (message_words what conn place bytes)
message_says what conn place bytes h placed some =
    says_more what _ _ h (counted conn placed.0 (counted place placed.1 (says_one _ (hex_plain bytes placed.2 some))))

pub event_says : (e : Event) → IsLegible e → Says (event_text e) (event_words e)
event_says (event.Began caller number c moment) h =
    behind (codes "began") refl refl refl (counted caller (wider caller h.0) (counted number h.1 (counted moment h.2 (command_says c h.3))))
event_says (event.Put conn place q) h = message_says (codes "put") conn place _ (written_out (codes "put") refl refl refl) h (request_some q)
event_says (event.Took conn place r) h = message_says (codes "took") conn place _ (written_out (codes "took") refl refl refl) h (reply_some r)
event_says (event.CbTook conn place c) h = message_says (codes "cbtook") conn place _ (written_out (codes "cbtook") refl refl refl) h (callback_some c)
event_says (event.CbPut conn place r) h = message_says (codes "cbput") conn place _ (written_out (codes "cbput") refl refl refl) h (callback_reply_some r)
event_says (event.Dialed conn) h = behind (codes "dialed") refl refl refl (number_says conn h)
event_says event.DialFailed h = alone (codes "dialfailed") refl refl refl
event_says (event.Broke conn cause) h = behind (codes "broke") refl refl refl (counted conn h.0 (cause_says cause h.1))
event_says (event.Ticked moment) h = behind (codes "ticked") refl refl refl (number_says moment h)
event_says (event.Answered caller number a) h = behind (codes "answered") refl refl refl (counted caller (wider caller h.0) (counted number h.1 (answer_says a h.2)))
event_says event.Quit h = alone (codes "quit") refl refl refl
