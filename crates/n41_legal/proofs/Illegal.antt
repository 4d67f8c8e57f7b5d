-- The first step that may not follow those before it.
use Rattle.std.proofs.Common.{◌≡◌, ◌≢◌, ℕ, ◌+◌, Bool, true, false, not, ◌&&◌, ◌||◌, if◌then◌else◌, List, [], ◌∷◌, length, Option, Some, None, refl, sym, ◌∙◌, ap, subst, true≢false}
use Rattle.std.specs.Bool.{Decides}
use Rattle.n41_types.specs.declared.identities.SessionId.{SessionId}
use Rattle.n41_runs.specs.declared.steps.Step.{Step}
use Rattle.n41_runs.specs.declared.steps.Step.TheVariants.{Does, Takes, Runs, Repeats, Refuses, Names, Makes, Binds, Ends}
use Rattle.n41_runs.specs.Rules.{Allowed, EndsClient, Sizes}
use Rattle.n41_runs.specs.Server.{alive, is_end_of, is_id, is_session, is_there, made_for}
use Rattle.n41_legal.specs.Answers.{is_bare}
use Rattle.n41_legal.specs.Legality.{IsIllegal, IsLegality}
use Rattle.n41_legal.proofs.Deciding.{and, both, id_is, is_not}
use Rattle.n41_legal.proofs.Equal.{session_id_same}

-- ---- the first illegal step

illegal_earlier : (s : Sizes) (w : List Step) (st : Step) (p : ℕ) → IsIllegal s w p → IsIllegal s (st ∷ w) p
illegal_earlier s w st p i = record {
  after = st ∷ i.after;
  step = i.step;
  before = i.before;
  parts = ap (λ (v : List Step). st ∷ v) i.parts;
  place_is = i.place_is;
  legal = i.legal;
  refused = i.refused;
}

pub earlier : (s : Sizes) (xs w : List Step) (st : Step) (p : ℕ) (o : Option ℕ) → xs ≡ st ∷ w → o ≡ Some p → IsLegality s w o → IsIllegal s xs p
earlier s xs w st p o e f i = subst (λ (v : List Step). IsIllegal s v p) (sym e) (illegal_earlier s w st p (subst (λ (x : Option ℕ). IsLegality s w x) f i))

nothing : (o : Option ℕ) → ((p : ℕ) → o ≢ Some p) → o ≡ None
nothing None f = refl
nothing (Some p) f = absurd (f p refl)

pub illegal_now : (s : Sizes) (xs w : List Step) (st : Step) (o : Option ℕ) (b : Bool) → xs ≡ st ∷ w → ((p : ℕ) → o ≢ Some p) → IsLegality s w o → Decides b (Allowed s w st) → b ≡ false → IsIllegal s xs (length w + 1)
illegal_now s xs w st o b e f i d g = record {
  after = [];
  step = st;
  before = w;
  parts = e;
  place_is = refl;
  legal = subst (λ (x : Option ℕ). IsLegality s w x) (nothing o f) i;
  refused = λ a. absurd (true≢false (sym (d.1 a) ∙ g));
}

-- ---- sessions of a client id

-- a session that is there was made in the run
same_session : (m i : SessionId) → is_session m i ≡ true → m ≡ i
same_session m i e = session_id_same m i e

still : (x y : Bool) → (if x then false else y) ≡ true → y ≡ true
still true y e = absurd (true≢false (sym e))
still false y e = e

-- none of the sessions that these steps made is one of the client id, of all that are there
bare_of : (v w : List Step) (c : ℕ) → is_bare v w c ≡ true → (i : SessionId) → alive v i ≡ true → alive w i ≡ true → made_for w i ≢ Some c
bare_of [] w c b i a l = absurd (true≢false (sym a))
bare_of (Makes k r m ∷ v) w c b i a l =
    let p = both (not (alive w m.sid && is_id (made_for w m.sid) c)) (is_bare v w c) b in
    at_test (is_session m.sid i) refl p.0 (λ h. bare_of v w c p.1 i h l) where
      at_test : (t : Bool) → is_session m.sid i ≡ t → not (alive w m.sid && is_id (made_for w m.sid) c) ≡ true → (alive v i ≡ true → made_for w i ≢ Some c) → made_for w i ≢ Some c
      at_test true e p g =
          let s = same_session m.sid i e in
          λ f. (let h : (alive w m.sid && is_id (made_for w m.sid) c) ≡ true = and (alive w m.sid) (is_id (made_for w m.sid) c) (ap (λ (x : SessionId). alive w x) s ∙ l) ((id_is (made_for w m.sid) c).1 (ap (λ (x : SessionId). made_for w x) s ∙ f)) in
          true≢false (sym h ∙ is_not (alive w m.sid && is_id (made_for w m.sid) c) p))
      at_test false e p g = g (sym (ap (λ (x : Bool). x || alive v i) e) ∙ a)
bare_of (Ends k r ∷ v) w c b i a l = bare_of v w c b i (still (is_end_of r.plan i) (alive v i) a) l
bare_of (Does e ∷ v) w c b i a l = bare_of v w c b i a l
bare_of (Takes k d p y ∷ v) w c b i a l = bare_of v w c b i a l
bare_of (Runs k r q xs ∷ v) w c b i a l = bare_of v w c b i a l
bare_of (Repeats k r y ∷ v) w c b i a l = bare_of v w c b i a l
bare_of (Refuses k r s ∷ v) w c b i a l = bare_of v w c b i a l
bare_of (Names k r x ∷ v) w c b i a l = bare_of v w c b i a l
bare_of (Binds k r x ∷ v) w c b i a l = bare_of v w c b i a l

not_both : (a b : Bool) → (a ≡ true → b ≡ true → ⊥) → not (a && b) ≡ true
not_both true true f = absurd (f refl refl)
not_both true false f = refl
not_both false b f = refl

bare_to : (v w : List Step) (c : ℕ) → ((i : SessionId) → alive w i ≡ true → made_for w i ≢ Some c) → is_bare v w c ≡ true
bare_to [] w c f = refl
bare_to (Makes k r m ∷ v) w c f =
    and (not (alive w m.sid && is_id (made_for w m.sid) c)) (is_bare v w c)
    (not_both (alive w m.sid) (is_id (made_for w m.sid) c) (λ g h. f m.sid g ((id_is (made_for w m.sid) c).0 h)))
    (bare_to v w c f)
bare_to (Does e ∷ v) w c f = bare_to v w c f
bare_to (Takes k d p y ∷ v) w c f = bare_to v w c f
bare_to (Runs k r q xs ∷ v) w c f = bare_to v w c f
bare_to (Repeats k r y ∷ v) w c f = bare_to v w c f
bare_to (Refuses k r s ∷ v) w c f = bare_to v w c f
bare_to (Names k r x ∷ v) w c f = bare_to v w c f
bare_to (Binds k r x ∷ v) w c f = bare_to v w c f
bare_to (Ends k r ∷ v) w c f = bare_to v w c f

ends_is : (w : List Step) (c : ℕ) (a b : Bool) → a ≡ is_there w c → b ≡ is_bare w w c → Decides (a && b) (EndsClient w c)
ends_is w c a b e f = (
  λ h. (let p = both a b h in record { there = sym e ∙ p.0; bare = λ i l. bare_of w w c (sym f ∙ p.1) i l l }),
  λ m. and a b (e ∙ m.there) (f ∙ bare_to w w c m.bare),
)

pub ends_then : (w : List Step) (c : ℕ) (a b : Bool) → a ≡ true → a ≡ is_there w c → b ≡ is_bare w w c → Decides b (EndsClient w c)
ends_then w c a b g e f = subst (λ (x : Bool). Decides (x && b) (EndsClient w c)) g (ends_is w c a b e f)
