-- Which results are those of a change, and what they earn.
use Rattle.std.proofs.Common.{◌≡◌, ◌≢◌, ◌⊎◌, inl, inr, ℕ, ◌+◌, ◌==◌, Bool, true, false, ◌||◌, List, [], ◌∷◌, Option, Some, None, Ok, if◌then◌else◌, refl, sym, ◌∙◌, ap, subst, arith, true≢false}
use Rattle.std.proofs.lemmas.Bool.Decides.{nat_tests}
use Rattle.std.specs.List.{list_any}
use Rattle.n41_types.specs.declared.operations.Operation.{Operation}
use Rattle.n41_types.specs.declared.operations.Operation.TheVariants as op
use Rattle.n41_types.specs.declared.plans.Class.TheVariants.{Reading, Changing}
use Rattle.n41_types.specs.declared.plans.Place.{Place}
use Rattle.n41_types.specs.declared.plans.Place.TheVariants.{Root, At}
use Rattle.n41_types.specs.declared.plans.Plan.{Plan}
use Rattle.n41_types.specs.declared.plans.Plan.TheVariants as plan
use Rattle.n41_types.specs.declared.plans.Request.{Request}
use Rattle.n41_types.specs.declared.plans.SlotUse.{SlotUse}
use Rattle.n41_types.specs.declared.statuses.Status.{Status}
use Rattle.n41_types.specs.Operations.{number as op_number}
use Rattle.n41_types.specs.Plans.{class_of}
use Rattle.n41_results.specs.declared.replies.Reply.{Reply}
use Rattle.n41_results.specs.declared.replies.ReplyBody.{ReplyBody}
use Rattle.n41_results.specs.declared.replies.ReplyBody.TheVariants.{Denied, Rejected, Results}
use Rattle.n41_results.specs.declared.results.Res.{Res}
use Rattle.n41_results.specs.declared.results.Res.TheVariants as res
use Rattle.n41_results.specs.declared.sessions.Sequenced.{Sequenced}
use Rattle.n41_results.specs.declared.shapes.Shape.{Shape}
use Rattle.n41_results.specs.Results.{ok, operation_of, status_of}
use Rattle.n41_results.specs.Shapes.{put_of, operations_of, behind, asked_of, shape_from, shape_of, misfit, nothing_after, attr_or, unasked_in, body_shape}
use Rattle.n41_model.specs.declared.words.Listed.{Listed}
use Rattle.n41_calls.specs.Calls.{value_of, body_value}
use Rattle.n41_model.specs.Replies.{is_ok, body_verdict, verdict_of}
use Rattle.n41_moves.proofs.Suits.{is_dir_change, is_walk}
use Rattle.n41_net.proofs.Verdicts.{is_ran}
use Rattle.n41_runs.specs.Effects.{change_of, is_done, has_done, acts}
use Rattle.n41_runs.specs.Rules.{IsRun}
use Rattle.n41_runs.specs.Steps.{ran_reply, end_status}

-- ---- the last operation is the one that changes

abbrev LastIs : Operation → List Operation → Type 0
LastIs o [] = ⊥
LastIs o (a ∷ []) = op_number a ≡ op_number o
LastIs o (a ∷ b ∷ os) = ((op_number a == op_number o) ≡ false) × LastIs o (b ∷ os)

if_none : (b : Bool) (x y : Option Shape) → (if b then x else y) ≡ None → ((b ≡ true) × (x ≡ None)) ⊎ ((b ≡ false) × (y ≡ None))
if_none true x y e = inl (refl, e)
if_none false x y e = inr (refl, e)

attr_none : (o : Option ℕ) (x : Option Shape) → attr_or o x ≡ None → x ≡ None
attr_none None x e = e
attr_none (Some a) x e = absurd (cc)

misfit_some : (n : ℕ) (os : List Operation) (x : Res) → misfit n os x ≢ None
misfit_some n [] x e = absurd (cc)
misfit_some n (o ∷ os) x e = absurd (cc)

nothing_left : (n : ℕ) (os : List Operation) (xs : List Res) → nothing_after n os xs ≡ None → xs ≡ []
nothing_left n os [] e = refl
nothing_left n os (x ∷ xs) e = absurd (misfit_some n os x e)

shape_left : (p : Plan) (n : ℕ) (xs : List Res) → shape_from p n [] xs ≡ None → xs ≡ []
shape_left p n [] e = refl
shape_left p n (x ∷ xs) e = absurd (misfit_some n [] x e)

-- what a first result says: it is that of the first operation, and where it is OK the others go on
first_fits : (p : Plan) (n : ℕ) (o : Operation) (os : List Operation) (x : Res) (xs : List Res) → shape_from p n (o ∷ os) (x ∷ xs) ≡ None → ((op_number (operation_of x) == op_number o) ≡ true) × ((((status_of x).0 == 0) ≡ true) × (shape_from p (n + 1) os xs ≡ None) ⊎ (((status_of x).0 == 0) ≡ false) × (xs ≡ []))
first_fits p n o os x xs e = by (if_none (op_number (operation_of x) == op_number o) (attr_or (unasked_in p x) (if (status_of x).0 == 0 then shape_from p (n + 1) os xs else nothing_after (n + 1) os xs)) (misfit n (o ∷ os) x) e) where
  rest : ((((status_of x).0 == 0) ≡ true) × (shape_from p (n + 1) os xs ≡ None)) ⊎ ((((status_of x).0 == 0) ≡ false) × (nothing_after (n + 1) os xs ≡ None)) → ((((status_of x).0 == 0) ≡ true) × (shape_from p (n + 1) os xs ≡ None) ⊎ (((status_of x).0 == 0) ≡ false) × (xs ≡ []))
  rest (inl h) = inl h
  rest (inr h) = inr (h.0, nothing_left (n + 1) os xs h.1)

  by : (((op_number (operation_of x) == op_number o) ≡ true) × (attr_or (unasked_in p x) (if (status_of x).0 == 0 then shape_from p (n + 1) os xs else nothing_after (n + 1) os xs) ≡ None)) ⊎ (((op_number (operation_of x) == op_number o) ≡ false) × (misfit n (o ∷ os) x ≡ None)) → ((op_number (operation_of x) == op_number o) ≡ true) × ((((status_of x).0 == 0) ≡ true) × (shape_from p (n + 1) os xs ≡ None) ⊎ (((status_of x).0 == 0) ≡ false) × (xs ≡ []))
  by (inl h) = (h.0, rest (if_none ((status_of x).0 == 0) (shape_from p (n + 1) os xs) (nothing_after (n + 1) os xs) (attr_none (unasked_in p x) (if (status_of x).0 == 0 then shape_from p (n + 1) os xs else nothing_after (n + 1) os xs) h.1)))
  by (inr h) = absurd (misfit_some n (o ∷ os) x h.1)

or_no : (b : Bool) → (b || false) ≡ b
or_no true = refl
or_no false = refl

done_is : (o : Operation) (x : Res) → op_number (operation_of x) ≡ op_number o → is_done o x ≡ is_ok (status_of x)
done_is o x e = let f : (op_number (operation_of x) == op_number o) ≡ true = grind (arith, nat_tests, e) in rw f refl

not_done : (a o : Operation) (x : Res) → op_number (operation_of x) ≡ op_number a → (op_number a == op_number o) ≡ false → is_done o x ≡ false
not_done a o x e f = let g : (op_number (operation_of x) == op_number o) ≡ false = rw e f in rw g refl

-- the changing operation answered OK exactly where the last result is OK
last_done : (p : Plan) (o : Operation) (n : ℕ) (os : List Operation) (xs : List Res) (s : Status) → LastIs o os → shape_from p n os xs ≡ None → list_any (is_done o) xs ≡ is_ok (end_status s xs)
last_done p o n [] xs s l e = absurd l
last_done p o n (a ∷ []) [] s l e = absurd (cc)
last_done p o n (a ∷ []) (x ∷ xs) s l e = by (first_fits p n a [] x xs e) where
  alone : op_number (operation_of x) ≡ op_number a → xs ≡ [] → list_any (is_done o) (x ∷ xs) ≡ is_ok (end_status s (x ∷ xs))
  alone f g = rw g (or_no (is_done o x) ∙ done_is o x (f ∙ l))

  by : ((op_number (operation_of x) == op_number a) ≡ true) × ((((status_of x).0 == 0) ≡ true) × (shape_from p (n + 1) [] xs ≡ None) ⊎ (((status_of x).0 == 0) ≡ false) × (xs ≡ [])) → list_any (is_done o) (x ∷ xs) ≡ is_ok (end_status s (x ∷ xs))
  by (f, inl g) = alone (grind (arith, nat_tests, f)) (shape_left p (n + 1) xs g.1)
  by (f, inr g) = alone (grind (arith, nat_tests, f)) g.1
last_done p o n (a ∷ b ∷ os) [] s l e = absurd (cc)
last_done p o n (a ∷ b ∷ os) (x ∷ xs) s l e = by (last_done p o (n + 1) (b ∷ os) xs (status_of x) l.1) (first_fits p n a (b ∷ os) x xs e) where
  by : (shape_from p (n + 1) (b ∷ os) xs ≡ None → list_any (is_done o) xs ≡ is_ok (end_status (status_of x) xs)) → ((op_number (operation_of x) == op_number a) ≡ true) × ((((status_of x).0 == 0) ≡ true) × (shape_from p (n + 1) (b ∷ os) xs ≡ None) ⊎ (((status_of x).0 == 0) ≡ false) × (xs ≡ [])) → list_any (is_done o) (x ∷ xs) ≡ is_ok (end_status s (x ∷ xs))
  by h (f, inl g) = let i = not_done a o x (grind (arith, nat_tests, f)) l.0 in rw i (h g.1)
  by h (f, inr g) = let i = not_done a o x (grind (arith, nat_tests, f)) l.0 in let j = g.1 in rw (i, j) (sym g.0)

put_not : (d : Place) (o : Operation) → op_number o ≢ 24 → op_number o ≢ 22 → (op_number (put_of d) == op_number o) ≡ false
put_not Root o e f = grind (arith, nat_tests, e)
put_not (At h) o e f = grind (arith, nat_tests, f)

behind_fits : (r : Request) (u : SlotUse) (q : Sequenced) (xs : List Res) → r.slot ≡ Some u → shape_of r (ran_reply r q xs) ≡ None → shape_from r.plan 1 (operations_of r.plan) xs ≡ None
behind_fits r u q xs e f = by (r.xid == r.xid) (let g : (r.xid == r.xid) ≡ true = grind (arith, nat_tests) in g) where
  rest : body_shape r (ran_reply r q xs).body ≡ None → shape_from r.plan 1 (operations_of r.plan) xs ≡ None
  rest g =
      let h : asked_of r ≡ op.Sequence ∷ operations_of r.plan = ap (λ (o : Option SlotUse). behind o (operations_of r.plan)) e in
      let i : shape_from r.plan 0 (op.Sequence ∷ operations_of r.plan) (res.Sequence (Ok q) ∷ xs) ≡ None = subst (λ (os : List Operation). shape_from r.plan 0 os (res.Sequence (Ok q) ∷ xs) ≡ None) h g in
      i

  by : (b : Bool) → (r.xid == r.xid) ≡ true → shape_from r.plan 1 (operations_of r.plan) xs ≡ None
  by b g = rest (rw g at f)

change_acts : (p : Plan) (xs : List Res) → is_dir_change p ≡ true → shape_from p 1 (operations_of p) xs ≡ None → acts p xs ≡ is_ok (end_status ok xs)
change_acts (plan.MakeDir d m) xs e f = last_done (plan.MakeDir d m) op.Create 1 (put_of d ∷ op.Create ∷ []) xs ok (put_not d op.Create (λ h. absurd (grind (arith, h))) (λ h. absurd (grind (arith, h))), refl) f
change_acts (plan.Remove d m) xs e f = last_done (plan.Remove d m) op.Remove 1 (put_of d ∷ op.Remove ∷ []) xs ok (put_not d op.Remove (λ h. absurd (grind (arith, h))) (λ h. absurd (grind (arith, h))), refl) f
change_acts (plan.Rename d m g k) xs e f = last_done (plan.Rename d m g k) op.Rename 1 (put_of d ∷ op.SaveFh ∷ put_of g ∷ op.Rename ∷ []) xs ok (put_not d op.Rename (λ h. absurd (grind (arith, h))) (λ h. absurd (grind (arith, h))), (refl, (put_not g op.Rename (λ h. absurd (grind (arith, h))) (λ h. absurd (grind (arith, h))), refl))) f
change_acts p xs e f = absurd (true≢false (sym e))

-- a run of a change took effect exactly where its last status is OK
pub run_acts : (r : Request) (u : SlotUse) (q : Sequenced) (xs : List Res) → r.slot ≡ Some u → IsRun r q xs → is_dir_change r.plan ≡ true → acts r.plan xs ≡ is_ok (end_status ok xs)
run_acts r u q xs e h d = change_acts r.plan xs d (behind_fits r u q xs e h.fits)

-- ---- bodies

abbrev pub acts_in : Plan → ReplyBody → Bool
acts_in p (Results s (x ∷ xs)) = acts p xs
acts_in p b = false

-- what has no changing operation does not act
pub no_change : (p : Plan) (b : ReplyBody) → change_of p ≡ None → acts_in p b ≡ false
no_change p (Results s (x ∷ xs)) e = ap (λ (o : Option Operation). has_done o xs) e
no_change p (Results s []) e = refl
no_change p (Denied n) e = refl
no_change p (Rejected n) e = refl

pub reading_change : (p : Plan) → class_of p ≡ Reading → (o : Option Operation) → change_of p ≡ o → (change_of p ≢ None → class_of p ≡ Changing) → change_of p ≡ None
reading_change p e None f g = f
reading_change p e (Some o) f g = absurd (let h : Reading ≡ Changing = sym e ∙ g (λ i. (let j : Some o ≡ None = sym f ∙ i in absurd (cc))) in cc)

-- ---- values

change_value : (l : Option Listed) (p : Plan) (s : Status) (xs : List Res) → is_dir_change p ≡ true → body_value l p (Results s xs) ≢ None
change_value l (plan.MakeDir d m) s xs e f = absurd (cc)
change_value l (plan.Remove d m) s xs e f = absurd (cc)
change_value l (plan.Rename d m g k) s xs e f = absurd (cc)
change_value l p s xs e f = absurd (true≢false (sym e))

-- the reply to a change has a value where its operations ran
pub ran_value : (l : Option Listed) (r : Request) (t : Bool) (y : Reply) → is_dir_change r.plan ≡ true → is_ran (verdict_of r t y) ≡ true → (b : ReplyBody) → y.body ≡ b → value_of l r.plan y ≢ None
ran_value l r t y d e (Results s xs) f = subst (λ (x : ReplyBody). body_value l r.plan x ≢ None) (sym f) (change_value l r.plan s xs d)
ran_value l r t y d e (Denied n) f = absurd (true≢false (sym e ∙ ap (λ (x : ReplyBody). is_ran (body_verdict r t x)) f))
ran_value l r t y d e (Rejected n) f = absurd (true≢false (sym e ∙ ap (λ (x : ReplyBody). is_ran (body_verdict r t x)) f))

pub walk_value : (l : Option Listed) (p : Plan) (y : Reply) → is_walk p ≡ true → value_of l p y ≡ None
walk_value l (plan.Walk a ns) y e = by y.body where
  by : (b : ReplyBody) → body_value l (plan.Walk a ns) b ≡ None
  by (Results s xs) = refl
  by (Denied n) = refl
  by (Rejected n) = refl
walk_value l p y e = absurd (true≢false (sym e))
