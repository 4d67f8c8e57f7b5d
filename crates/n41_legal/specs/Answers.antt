-- What a step of the server answers.
use Rattle.std.specs.Prelude.{ℕ, Bool, true, false, ◌&&◌, not, List, [], ◌∷◌, Option, Some, None}
use Rattle.n41_results.specs.declared.replies.Reply.{Reply}
use Rattle.n41_runs.specs.declared.steps.Step.{Step}
use Rattle.n41_runs.specs.declared.steps.Step.TheVariants.{Does, Takes, Runs, Repeats, Refuses, Names, Makes, Binds, Ends}
use Rattle.n41_runs.specs.Server.{alive, is_id, made_for}
use Rattle.n41_runs.specs.Steps.{bound_reply, ended_reply, made_reply, named_reply, ran_reply, refusal}

-- the message that a step of the server answers
abbrev pub answered_by : Step → Option ℕ
answered_by (Does e) = None
answered_by (Takes k c p y) = None
answered_by (Runs k r q xs) = Some k
answered_by (Repeats k r y) = Some k
answered_by (Refuses k r s) = Some k
answered_by (Names k r i) = Some k
answered_by (Makes k r m) = Some k
answered_by (Binds k r b) = Some k
answered_by (Ends k r) = Some k

-- what it answers
abbrev pub answer_of : Step → Option Reply
answer_of (Does e) = None
answer_of (Takes k c p y) = None
answer_of (Runs k r q xs) = Some (ran_reply r q xs)
answer_of (Repeats k r y) = Some y
answer_of (Refuses k r s) = Some (refusal r s)
answer_of (Names k r i) = Some (named_reply r i)
answer_of (Makes k r m) = Some (made_reply r m)
answer_of (Binds k r b) = Some (bound_reply r b)
answer_of (Ends k r) = Some (ended_reply r)

-- the server served a request without a slot
abbrev pub is_bare_step : Step → Bool
is_bare_step (Names k r i) = true
is_bare_step (Makes k r m) = true
is_bare_step (Binds k r b) = true
is_bare_step (Ends k r) = true
is_bare_step st = false

-- none of the sessions that these steps made, and that are there after the run, is one of the client id
abbrev pub is_bare : List Step → List Step → ℕ → Bool
is_bare [] w c = true
is_bare (Makes k r m ∷ v) w c = not (alive w m.sid && is_id (made_for w m.sid) c) && is_bare v w c
is_bare (st ∷ v) w c = is_bare v w c
