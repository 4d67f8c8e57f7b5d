-- The places of the answers to callers' commands. A journal is a list of events, the newest first.
use Rattle.std.specs.Prelude.{◌≡◌, ℕ, zero, suc, ◌+◌, ◌==◌, List, [], ◌∷◌, ◌++◌, length, reverse, Option, Some, None, slice_get, if◌then◌else◌}
use Rattle.n41_types.specs.declared.commands.Answer.{Answer}
use Rattle.n41_journal.specs.Journal.{event_at}
use Rattle.n41_journal.specs.declared.events.Event.{Event}
use Rattle.n41_journal.specs.declared.events.Event.TheVariants.{Began, Answered}

-- this answer to a caller's command of this number stands at this place
abbrev pub HasAnswer : List Event → ℕ → ℕ → ℕ → Answer → Type 0
HasAnswer js c n p a = event_at js p ≡ Some (Answered c n a)

-- the places of the answers to a caller, newest first
abbrev pub places : List Event → ℕ → List ℕ
places [] c = []
places (Answered d n a ∷ js) c = if d == c then suc (length js) ∷ places js c else places js c
places (e ∷ js) c = places js c

-- the places of the answers to the callers from this one on, so many, each list oldest first
abbrev pub lists_from : List Event → ℕ → ℕ → List (List ℕ)
lists_from js c zero = []
lists_from js c (suc k) = reverse (places js c) ∷ lists_from js (c + 1) k

-- the same for so many callers from 0 on
abbrev pub lists : ℕ → List Event → List (List ℕ)
lists n js = lists_from js 0 n

-- these lists, with one more place at the end of a caller's
abbrev pub noted : List (List ℕ) → ℕ → ℕ → List (List ℕ)
noted [] c p = []
noted (xs ∷ ls) zero p = (xs ++ p ∷ []) ∷ ls
noted (xs ∷ ls) (suc c) p = xs ∷ noted ls c p

-- what an event at this place makes of the lists
abbrev pub lists_after : List (List ℕ) → ℕ → Event → List (List ℕ)
lists_after ls p (Answered c n a) = noted ls c p
lists_after ls p e = ls

abbrev pub numbered : Option (List ℕ) → ℕ → Option ℕ
numbered None n = None
numbered (Some xs) zero = None
numbered (Some xs) (suc k) = slice_get xs k

-- the place in a caller's list at a number, which counts from 1
abbrev pub place_in : List (List ℕ) → ℕ → ℕ → Option ℕ
place_in ls c n = numbered (slice_get ls c) n

-- the numbers of the commands that a caller began, newest first
abbrev pub begun : List Event → ℕ → List ℕ
begun [] c = []
begun (Began d n k m ∷ js) c = if d == c then n ∷ begun js c else begun js c
begun (e ∷ js) c = begun js c

-- the numbers from this one down to 1
abbrev pub down_from : ℕ → List ℕ
down_from zero = []
down_from (suc n) = suc n ∷ down_from n

-- the answer that an event gives
abbrev pub answer_in : Option Event → Option Answer
answer_in (Some (Answered c n a)) = Some a
answer_in e = None
