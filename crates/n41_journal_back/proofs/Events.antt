-- The words of an event are read as the same.
use Rattle.std.proofs.Common.{◌≡◌, ◌<◌, ◌^◌, ℕ, List, [], ◌∷◌, Some, Result, Ok, refl, ap}
use Rattle.std.specs.Fmt.{decimal}
use Rattle.hex.specs.Hex.{IsBytes, encode_lower}
use Rattle.n41_types.specs.declared.commands.Answer.{Answer}
use Rattle.n41_types.specs.declared.commands.Command.{Command}
use Rattle.n41_types.specs.declared.plans.Request.{Request}
use Rattle.n41_results.specs.declared.replies.Reply.{Reply}
use Rattle.n41_results.specs.declared.callbacks.CbCall.{CbCall}
use Rattle.n41_results.specs.declared.callbacks.CbReply.{CbReply}
use Rattle.n41_journal.specs.declared.events.Cause.{Cause}
use Rattle.n41_journal.specs.declared.events.Cause.TheVariants as cause
use Rattle.n41_journal.specs.declared.events.Event.{Event}
use Rattle.n41_journal.specs.declared.events.Event.TheVariants as event
use Rattle.n41_xdr.specs.Reading.{◌>>=◌}
use Rattle.n41_requests.specs.Requests.{spelled}
use Rattle.n41_replies.specs.Replies.{written, IsSpellable}
use Rattle.n41_replies.proofs.Spelled.{written_again}
use Rattle.n41_compound.proofs.Seen.{spelled_is_seen}
use Rattle.n41_cbmsg.proofs.CallsSpelled.{written_call_read}
use Rattle.n41_cbmsg.proofs.AnswersSpelled.{written_answer_read}
use Rattle.n41_cbmsg.specs.Calls.{written_call, CallFits}
use Rattle.n41_cbmsg.specs.Answers.{written_answer, AnswerFits}
use Rattle.n41_words.specs.Numbers.{hex_bytes}
use Rattle.n41_words.specs.declared.fault.LineKind.{LineKind}
use Rattle.n41_written.proofs.HexBack.{bytes_read}
use Rattle.n41_written.specs.Written.{command_text}
use Rattle.n41_words.specs.Lines.{words}
use Rattle.n41_journal_text.specs.Words.{cause_words, answer_words, event_words, IsSaid, IsLegibleCause, IsLegibleAnswer, IsPlaced}
use Rattle.n41_journal_text.proofs.Plain.{hex_plain}
use Rattle.n41_journal_text.proofs.Filled.{request_some, reply_some, callback_some, callback_reply_some}
use Rattle.n41_journal_words.specs.Reading.{last_at}
use Rattle.n41_journal_words.specs.Answers.{number64}
use Rattle.n41_journal_reader.specs.Messages.{reply_of, callback_of, callback_reply_of}
use Rattle.n41_journal_reader.specs.Events.{began_of, place_at, message_of, cause_of, broke_of, answered_of, bytes_at, SaysPut, Says}
use Rattle.n41_journal_back.specs.Kept.{IsKept}
use Rattle.n41_journal_back.proofs.Forms.{at_word, at_last, at32, at64, last32, last64}
use Rattle.n41_journal_back.proofs.Answers.{answer_back}

-- ---- messages

place_back : (conn place : ℕ) (ws : List (List ℕ)) → conn < 2 ^ 64 → place < 2 ^ 64 → place_at (decimal conn ∷ decimal place ∷ ws) ≡ Ok ((conn, place), ws)
place_back conn place ws h g = rw (at64 conn (decimal place ∷ ws) h, at64 place ws g) refl

message_back : {X : Type 0} (form : List ℕ → Result X LineKind) (event : ℕ → ℕ → X → Event) (conn place : ℕ) (bytes : List ℕ) (x : X) → IsPlaced conn place bytes → (bytes ≡ [] → ⊥) →
    form (encode_lower bytes) ≡ Ok x → message_of form event (decimal conn ∷ decimal place ∷ encode_lower bytes ∷ []) ≡ Ok (event conn place x)
message_back form event conn place bytes x placed some h =
    rw (place_back conn place (encode_lower bytes ∷ []) placed.0 placed.1, at_last form (encode_lower bytes) x (hex_plain bytes placed.2 some).plain h) refl

-- bytes that spell a message are told by a word that says it
reply_back : (r : Reply) → IsBytes (written r) → IsSpellable r → reply_of (encode_lower (written r)) ≡ Ok r
reply_back r fits h = rw (bytes_read (written r) fits (reply_some r), written_again r h) refl

callback_back : (c : CbCall) → IsBytes (written_call c) → CallFits c → callback_of (encode_lower (written_call c)) ≡ Ok c
callback_back c fits h = rw (bytes_read (written_call c) fits (callback_some c), written_call_read c h) refl

callback_reply_back : (r : CbReply) → IsBytes (written_answer r) → AnswerFits r → callback_reply_of (encode_lower (written_answer r)) ≡ Ok r
callback_reply_back r fits h = rw (bytes_read (written_answer r) fits (callback_reply_some r), written_answer_read r h) refl

-- ---- requests

bytes_back : (conn place : ℕ) (bytes : List ℕ) → IsPlaced conn place bytes → (bytes ≡ [] → ⊥) → bytes_at (decimal conn ∷ decimal place ∷ encode_lower bytes ∷ []) ≡ Ok (((conn, place), bytes), [])
bytes_back conn place bytes placed some =
    rw (place_back conn place (encode_lower bytes ∷ []) placed.0 placed.1, at_word hex_bytes (encode_lower bytes) [] bytes (hex_plain bytes placed.2 some).plain (bytes_read bytes placed.2 some)) refl

put_back : (conn place : ℕ) (q : Request) → IsKept (event.Put conn place q) → SaysPut (bytes_at (decimal conn ∷ decimal place ∷ encode_lower (spelled q) ∷ [])) (Ok (event.Put conn place q))
put_back conn place q h =
    rw (bytes_back conn place (spelled q) h.1 (request_some q)) (Some q, record { lawful = h.2.0; is_seen = spelled_is_seen q h.0 h.2.1 }, refl)

-- ---- the other events

began_back : (caller number : ℕ) (c : Command) (moment : ℕ) → caller < 2 ^ 32 → number < 2 ^ 64 → moment < 2 ^ 64 → IsSaid c →
    began_of (decimal caller ∷ decimal number ∷ decimal moment ∷ words (command_text c)) ≡ Ok (event.Began caller number c moment)
began_back caller number c moment h g k said =
    rw (at32 caller (decimal number ∷ decimal moment ∷ words (command_text c)) h, at64 number (decimal moment ∷ words (command_text c)) g, at64 moment (words (command_text c)) k, said) refl

cause_back : (c : Cause) → IsLegibleCause c → cause_of (cause_words c) ≡ Ok c
cause_back (cause.Old xid) h = ap (λ (r : Result ℕ LineKind). r >>= λ n. Ok (cause.Old n)) (last32 xid h)
cause_back _ h = refl

broke_back : (conn : ℕ) (c : Cause) → conn < 2 ^ 64 → IsLegibleCause c → broke_of (decimal conn ∷ cause_words c) ≡ Ok (event.Broke conn c)
broke_back conn c h g = rw (at64 conn (cause_words c) h, cause_back c g) refl

answered_back : (caller number : ℕ) (a : Answer) → caller < 2 ^ 32 → number < 2 ^ 64 → IsLegibleAnswer a →
    answered_of (decimal caller ∷ decimal number ∷ answer_words a) ≡ Ok (event.Answered caller number a)
answered_back caller number a h g k = rw (at32 caller (decimal number ∷ answer_words a) h, at64 number (answer_words a) g, answer_back a k) refl

numbered_back : (event : ℕ → Event) (n : ℕ) → n < 2 ^ 64 → (last_at number64 (decimal n ∷ []) >>= λ n. Ok (event n)) ≡ Ok (event n)
numbered_back event n h = ap (λ (r : Result ℕ LineKind). r >>= λ n. Ok (event n)) (last64 n h)

pub words_back : (e : Event) → IsKept e → Says (event_words e) (Ok e)
words_back (event.Began caller number c moment) h = began_back caller number c moment h.1.0 h.1.1 h.1.2 h.1.3
words_back (event.Put conn place q) h = put_back conn place q h
words_back (event.Took conn place r) h = message_back reply_of event.Took conn place (written r) r h.1 (reply_some r) (reply_back r h.1.2 h.0)
words_back (event.CbTook conn place c) h = message_back callback_of event.CbTook conn place (written_call c) c h.1 (callback_some c) (callback_back c h.1.2 h.0)
words_back (event.CbPut conn place r) h = message_back callback_reply_of event.CbPut conn place (written_answer r) r h.1 (callback_reply_some r) (callback_reply_back r h.1.2 h.0)
words_back (event.Dialed conn) h = numbered_back event.Dialed conn h.1
words_back event.DialFailed h = refl
words_back (event.Broke conn c) h = broke_back conn c h.1.0 h.1.1
words_back (event.Ticked moment) h = numbered_back event.Ticked moment h.1
words_back (event.Answered caller number a) h = answered_back caller number a h.1.0 h.1.1 h.1.2
words_back event.Quit h = refl
