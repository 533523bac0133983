-- What is so of labels within a server's step: once its cause is taken, and after each decision.
use Rattle.std.proofs.Common.{List, false, inl, inr, refl, subst, ℕ, ◌++◌, ◌<◌, ◌∷◌, ◌≡◌}
use Rattle.std.specs.Prelude.{[]}
use Rattle.base_types.specs.declared.ids.HostId.{HostId}
use Rattle.base_types.specs.declared.ids.Node.TheVariants.{Server}
use Rattle.base_types.specs.declared.ids.ServerId.{ServerId}
use Rattle.tree_answers.specs.declared.tree.Tree.{Tree}
use Rattle.message_types.specs.declared.message.Body.{Body}
use Rattle.script_lines.specs.declared.script.Script.{Script}
use Rattle.token_types.specs.declared.token.Token.{Token}
use Rattle.run_rules.specs.Doings.{Doing, Issued, SentTo, StayStamp, admitting, after_cause, deciding, doings_of}
use Rattle.run_rules.specs.Doings.{sending}
use Rattle.run_rules.specs.Doings.Doing.{MakesWant, Reserves, WritesDown}
use Rattle.run_rules.specs.Kept.{filesets_after, filesets_kept, filesets_through}
use Rattle.run_rules.specs.Past.{EachInTurn, appended}
use Rattle.run_rules.specs.Runs.{StepMeets, StepsMeet}
use Rattle.run_rules.specs.ServerDecides.{MayDecideAll, by_cause, decisions}
use Rattle.run_rules.specs.Steps.{steps_of_host, steps_of_server}
use Rattle.run_rules.specs.declared.applied.Applied.TheVariants.{Done as IsDone, IsDown, Replied, Stored}
use Rattle.run_rules.specs.declared.applied.Applied.TheVariants.{Moves as IsMoved, Wants as IsWanted}
use Rattle.run_parts.proofs.Served.{Next, each_next}
use Rattle.run_parts.specs.Doings.{doings, doings_cause}
use Rattle.run_history.specs.Changes.{EachChange}
use Rattle.run_parts.proofs.LabelLaw.{Uses, same_uses, serve}
use Rattle.run_parts.specs.Uses.{Frees, FreesAny, Locked}
use Rattle.run_tokens.proofs.Law.{AtServer}
use Rattle.run_rules.specs.declared.applied.Applied.{Applied}
use Rattle.run_rules.specs.declared.step.Cause.{Cause}
use Rattle.run_rules.specs.declared.step.Cause.TheVariants.{End, Evict, Flushed, Freight, Lapse, Line, Message as Came}
use Rattle.run_rules.specs.declared.step.Cause.TheVariants.{Restart}
use Rattle.run_rules.specs.declared.step.Labelled.{Labelled}
use Rattle.run_rules.specs.declared.step.Step.{Step}
use Rattle.run_history.proofs.UseCausing.{of_cause, to_cause}
use Rattle.run_history.proofs.ServerStep.{met}
use Rattle.run_history.proofs.State.{LockedNow, all, whole}
use Rattle.run_history.proofs.Waiting.{AllFresh, cause_sent, causes as causes_fresh, fresh_now, wanted as wanted_fresh}
use Rattle.run_tokens.specs.Unmoved.{MovesNone, is_move}
use Rattle.run_tokens.proofs.TokenRun.{none_moves}
use Rattle.std.specs.List.{list_any}
use Rattle.run_rules.specs.Doings.{shipping}
use Rattle.run_history.proofs.Waiting.{written_down as written_fresh}

-- the decisions alone are doings of their own
same_deciding : (xs : List Applied) → list_any is_move xs ≡ false → deciding xs ≡ deciding (decisions xs)
same_deciding [] none = refl
same_deciding (IsWanted x ∷ xs) none = refl
same_deciding (IsDone x ∷ xs) none = refl
same_deciding (Replied x ∷ xs) none = same_deciding xs none
same_deciding (Stored h f ss n ∷ xs) none = same_deciding xs none
same_deciding (IsDown h ∷ xs) none = same_deciding xs none
same_deciding (IsMoved move ∷ xs) none = absurd (cc)

module _ (script : Script) (start : Tree) (firsts : ServerId → ℕ) (real : (v : ServerId) → 0 < firsts v)
    (past : List Step) (s : Step) (run : StepsMeet script start firsts (s ∷ past)) (v : ServerId)
    (node : s.node ≡ Server v) where
  abbrev S : List Doing
  S = doings_of (firsts v) v past

  abbrev own_of : HostId → List Step
  own_of h = steps_of_host h past

  abbrev Now : HostId → Labelled → Type 0
  Now = LockedNow firsts past s (Server v)

  -- after some doings of the step
  pub record Mid (D : List Doing) : Type 0 where
    pub at : AtServer (λ h. steps_of_host h past) v D
    pub uses : (h : HostId) → Uses h v (steps_of_host h past) D (LockedNow firsts past s (Server v) h)
    pub fresh : AllFresh D
    pub sent : (h : HostId) (e n : ℕ) (b : Body) → SentTo (doings_of (firsts v) v past) h e n b → SentTo D h e n b
    pub issued : (t : Token) (x : StayStamp) → Issued (doings_of (firsts v) v past) t x → Issued D t x

  -- a doing that frees nothing
  goes_on : (D : List Doing) (a : Doing) → Next own_of v D a → ((h : HostId) (u : Labelled) → Frees v D a h u → ⊥)
      → AllFresh (a ∷ D) → Mid D → Mid (a ∷ D)
  goes_on D a next none fresh old = record {
    at = next.next old.at;
    uses = λ h. same_uses h v (steps_of_host h past) (a ∷ D) (λ u. Now h u × (u.token.id.server ≡ v
        → FreesAny v (a ∷ []) D h u → ⊥))
        (Now h) (λ u at y. y.0) (λ u at y. (y, λ _ f. elim f [ inl x ↦ none h u x | inr x ↦ elim x [ ] ]))
        (serve own_of (whole script start firsts real past run.0).alone h v
        ((all script start firsts real past run.0).labels h) (a ∷ []) D (Now h) old.at (next, tt) (old.uses h));
    fresh = fresh;
    sent = λ h e n b x. inr (old.sent h e n b x);
    issued = λ t x i. inr (old.issued t x i);
  }

  none_wants : (D : List Doing) (x : _) (h : HostId) (u : Labelled) → Frees v D (MakesWant x) h u → ⊥
  none_wants D x h u (inl (e, n, q)) = cc
  none_wants D x h u (inr (g, (t, fresh), gives)) = let q = t.2.0 in cc

  none_writes : (D : List Doing) (x : _) (h : HostId) (u : Labelled) → Frees v D (WritesDown x) h u → ⊥
  none_writes D x h u (inl (e, n, q)) = cc
  none_writes D x h u (inr (g, (t, fresh), gives)) = let q = t.2.0 in cc

  abbrev rest : List Doing
  rest = admitting s.admitted ++ (sending s.sent ++ (shipping s.shipped ++ (Reserves s.reserved ∷ [])))

  -- once the cause is taken
  taken_next : (c : Cause) (more : List Doing) → EachInTurn (Next own_of v) (doings_cause c S more) S
      → AtServer own_of v S → AtServer own_of v (after_cause c S) × EachInTurn (Next own_of v) more (after_cause c S)
  taken_next (Came m) more each at = (each.0.next at, each.1)
  taken_next (Restart line) more each at = (each.0.next at, each.1)
  taken_next Flushed more each at = (each.0.next at, each.1)
  taken_next (Line line) more each at = (at, each)
  taken_next Lapse more each at = (at, each)
  taken_next Evict more each at = (at, each)
  taken_next (Freight freight) more each at = (each.0.next at, each.1)
  taken_next End more each at = (at, each)

  serve_them : (h : HostId) (todo : List Doing) → EachInTurn (Next own_of v) todo S
      → Uses h v (steps_of_host h past) (appended todo S) (λ u. Locked firsts past h u × (u.token.id.server ≡ v
      → FreesAny v todo S h u → ⊥))
  serve_them h todo each =
      serve own_of (whole script start firsts real past run.0).alone h v
      ((all script start firsts real past run.0).labels h)
      todo S (Locked firsts past h) ((whole script start firsts real past run.0).at v) each
      ((all script start firsts real past run.0).uses h v)

  taken_uses : (c : Cause) (more : List Doing) → EachInTurn (Next own_of v) (doings_cause c S more) S → (h : HostId)
      → Uses h v (steps_of_host h past) (after_cause c S)
      (λ u. Locked firsts past h u × (u.token.id.server ≡ v → FreesAny v (doings_cause c S []) S h u → ⊥))
  taken_uses (Came m) more each h = serve_them h (doings_cause (Came m) S []) (each.0, tt)
  taken_uses (Restart line) more each h = serve_them h (doings_cause (Restart line) S []) (each.0, tt)
  taken_uses Flushed more each h = serve_them h (doings_cause Flushed S []) (each.0, tt)
  taken_uses (Line line) more each h = serve_them h [] tt
  taken_uses Lapse more each h = serve_them h [] tt
  taken_uses Evict more each h = serve_them h [] tt
  taken_uses (Freight freight) more each h = serve_them h (doings_cause (Freight freight) S []) (each.0, tt)
  taken_uses End more each h = serve_them h [] tt

  issued_past : (c : Cause) (t : Token) (x : StayStamp) → Issued S t x → Issued (after_cause c S) t x
  issued_past (Came m) t x i = inr i
  issued_past (Restart line) t x i = inr i
  issued_past Flushed t x i = inr i
  issued_past (Line line) t x i = i
  issued_past Lapse t x i = i
  issued_past Evict t x i = i
  issued_past (Freight freight) t x i = inr i
  issued_past End t x i = i

  m : StepMeets script start firsts (Server v) past s
  m = met script start firsts real past s run v node

  none_moved : MovesNone s
  none_moved = none_moves script start firsts (Server v) past s m

  nexts : EachInTurn (Next own_of v) (doings s S) S
  nexts =
      each_next own_of (whole script start firsts real past run.0).alone v s S none_moved m.0.tokens (λ x e. (m.1 x e).2)

  first : Mid (after_cause s.cause S)
  first = record {
    at = (taken_next s.cause (deciding s.applied ++ rest) nexts ((whole script start firsts real past run.0).at v)).0;
    uses = λ h. same_uses h v (steps_of_host h past) (after_cause s.cause S)
        (λ u. Locked firsts past h u × (u.token.id.server ≡ v → FreesAny v (doings_cause s.cause S []) S h u
        → ⊥)) (Now h)
        (λ u at y. (y.0, λ here f. y.1 here (to_cause v h u s S f)))
        (λ u at y. (y.0, λ here f. y.1 here (of_cause v h u s S f)))
        (taken_uses s.cause (deciding s.applied ++ rest) nexts h);
    fresh = causes_fresh s.cause S (fresh_now script start firsts real past run.0 v);
    sent = λ h e n b x. cause_sent s.cause S h e n b x;
    issued = λ t x i. issued_past s.cause t x i;
  }

  -- and after each decision
  walk : (xs : List Applied) (K : Tree) (D : List Doing) → MayDecideAll v K S D s xs
      → EachInTurn (Next own_of v) (deciding xs ++ rest) D
      → Mid D → EachChange (λ before K x. Mid before) s.cause K D xs
  walk [] K D may next mid = tt
  walk (IsWanted x ∷ xs) K D may next mid =
      walk xs (filesets_after s.cause K (IsWanted x)) (MakesWant x ∷ D) may.1 next.1
      (goes_on D (MakesWant x) next.0 (none_wants D x) (wanted_fresh v S s x K D may.0 mid.fresh) mid)
  walk (IsDone x ∷ xs) K D may next mid = (
    mid,
    walk xs (filesets_after s.cause K (IsDone x)) (WritesDown x ∷ D) may.1 next.1
        (goes_on D (WritesDown x) next.0 (none_writes D x) (written_fresh x D mid.fresh) mid),
  )
  walk (Replied x ∷ xs) K D may next mid = elim may.0 [ ]
  walk (Stored h f ss n ∷ xs) K D may next mid = elim may.0 [ ]
  walk (IsDown h ∷ xs) K D may next mid = elim may.0 [ ]
  walk (IsMoved move ∷ xs) K D may next mid = elim may.0 [ ]

  pub each_mid : EachChange (λ before K x. Mid before) s.cause
      (filesets_through s.cause (by_cause s.applied) (filesets_kept start v (steps_of_server v past))) (after_cause s.cause (doings_of
      (firsts v) v past))
      (decisions s.applied)
  each_mid =
      walk (decisions s.applied) (filesets_through s.cause (by_cause s.applied) (filesets_kept start v (steps_of_server v past)))
      (after_cause s.cause S) m.0.works.decides
      (subst (λ ds. EachInTurn (Next own_of v) (ds ++ rest) (after_cause s.cause S)) (same_deciding s.applied none_moved)
      (taken_next s.cause (deciding s.applied ++ rest) nexts
      ((whole script start firsts real past run.0).at v)).1) first
