-- A Change that waits at its server is outstanding at its host, and the labels are those with which it was asked.
use Rattle.std.proofs.Common.{List, ap, arith, inl, inr, refl, subst, suc, sym, ℕ, ◌+◌, ◌<◌, ◌==◌, ◌∙◌, ◌∷◌, ◌≡◌, ◌⊎◌}
use Rattle.std.specs.Prelude.{[], map, ◌/◌}
use Rattle.base_types.specs.declared.ids.FilesetId.{FilesetId}
use Rattle.base_types.specs.declared.ids.HostId.{HostId}
use Rattle.base_types.specs.declared.ids.Node.{Node}
use Rattle.base_types.specs.declared.ids.Node.TheVariants.{Host, Server}
use Rattle.base_types.specs.declared.ids.ServerId.{ServerId}
use Rattle.tree_answers.specs.declared.tree.Tree.{Tree}
use Rattle.message_types.specs.declared.asking.Change.{Change as ChangeOf}
use Rattle.message_types.specs.declared.message.Body.{Body}
use Rattle.message_types.specs.declared.message.Body.TheVariants.{Change, Done}
use Rattle.message_types.specs.declared.message.Message.{Message}
use Rattle.message_types.specs.declared.telling.Done.{Done as DoneOf}
use Rattle.script_lines.specs.declared.script.Script.{Script}
use Rattle.run_rules.specs.Doings.{after_shipping}
use Rattle.run_rules.specs.Doings.{Doing, SentTo, admitting, after_admitting, after_cause, after_deciding}
use Rattle.run_rules.specs.Doings.{after_sending, after_step, deciding, doings_of, epoch, sending}
use Rattle.run_rules.specs.Doings.Doing.{Gets, Puts}
use Rattle.run_rules.specs.Doings.Doing.{Admits, BeginsEpoch, Flushes, MakesWant, Reserves, Sent, Took, WritesDown}
use Rattle.run_rules.specs.Kept.{filesets_after, filesets_kept, filesets_through}
use Rattle.run_rules.specs.Messages.{Changing, ComesIn, DoneComes, Said, Stay, epoch_at, epoch_raised, epoch_raised_by}
use Rattle.run_rules.specs.Messages.{home}
use Rattle.run_rules.specs.Past.{In, Once, appended}
use Rattle.run_rules.specs.Runs.{CameToHost, StepMeets, StepsMeet, TakesPart}
use Rattle.run_rules.specs.ServerDecides.{MayDecide, MayDecideAll, by_cause, decisions}
use Rattle.run_rules.specs.ServerMay.{ServerMay}
use Rattle.run_rules.specs.Steps.{steps_of_host, steps_of_server}
use Rattle.run_rules.specs.Wants.{Decides, IsOld, IsQueued}
use Rattle.run_rules.specs.declared.applied.Applied.TheVariants.{Done as IsDone, IsDown, Replied, Stored}
use Rattle.run_rules.specs.declared.applied.Applied.TheVariants.{Moves as IsMoved, Wants as IsWanted}
use Rattle.run_rules.specs.declared.applied.Request.TheVariants.{Change as Changes}
use Rattle.run_parts.proofs.Words.{host_split}
use Rattle.run_contents.proofs.Grants.{same_decisions}
use Rattle.run_contents.proofs.Runs.{own_run}
use Rattle.run_contents.specs.Steps.{HostRun}
use Rattle.run_tokens.proofs.Words.{acts_after, epoch_grows, if_server, own_after}
use Rattle.run_rules.specs.declared.applied.Admission.{Admission}
use Rattle.run_rules.specs.declared.applied.Applied.{Applied}
use Rattle.run_rules.specs.declared.applied.Request.{Request}
use Rattle.run_rules.specs.declared.applied.Wanted.{Wanted}
use Rattle.run_rules.specs.declared.applied.Written.{Written}
use Rattle.run_rules.specs.declared.step.Cause.{Cause}
use Rattle.run_rules.specs.declared.step.Cause.TheVariants.{End, Evict, Flushed, Freight, Lapse, Line, Message as Came}
use Rattle.run_rules.specs.declared.step.Cause.TheVariants.{Restart}
use Rattle.run_rules.specs.declared.step.Step.{Step}
use Rattle.run_tokens.proofs.TokenRun.{works_none}
use Rattle.run_tokens.proofs.Ships.{ships_keep}
use Rattle.run_rules.specs.Doings.{shipping}
use Rattle.run_history.proofs.State.{whole}

-- no Done of a Change was said in this epoch
abbrev pub Unsettled : List Doing → HostId → ChangeOf → Type 0
Unsettled S h c = (n : ℕ) (d : DoneOf) → SentTo S h (epoch S) n (Done d) → d.fileset ≡ c.fileset
    → d.bring.number ≡ c.number → ⊥

abbrev pub AllFresh : List Doing → Type 0
AllFresh S = (w : Wanted) (c : ChangeOf) → IsQueued S w → w.request ≡ Changes c → Unsettled S w.host c

-- what is no want and is not sent changes nothing of that
on : (S : List Doing) (a : Doing) → ((w : Wanted) → a ≡ MakesWant w → ⊥)
    → ((h : HostId) (e n : ℕ) (b : Body) → a ≡ Sent h e n b → ⊥) → epoch (a ∷ S) ≡ epoch S → AllFresh S
    → AllFresh (a ∷ S)
on S a no_want no_sent same old w c (inl e) r n d sent f m = no_want w e
on S a no_want no_sent same old w c (inr k) r n d (inl e) f m = no_sent w.host (epoch (a ∷ S)) n (Done d) e
on S a no_want no_sent same old w c (inr k) r n d (inr q) f m =
    old w c k.0 r n d (subst (λ (x : ℕ). SentTo S w.host x n (Done d)) same q) f m

one_sent : (S : List Doing) (h : HostId) (e n : ℕ) (b : Body) → AllFresh S → AllFresh (Sent h e n b ∷ S)
one_sent S h e n b old w c (inl x) r k d sent f m = cc
one_sent S h e n b old w c (inr x) r k d (inr q) f m = old w c x.0 r k d q f m
one_sent S h e n b old w c (inr x) r k d (inl q) f m =
    x.1 (inl (subst (λ (y : Request). Decides (Sent h e n b) w.host y) (sym r) (inr (epoch S, k, d, q, f, m))))

sents : (ms : List Message) (S : List Doing) → AllFresh S → AllFresh (appended (sending ms) S)
sents [] S old = old
sents (m ∷ ms) S old =
    sents ms (Sent m.host m.epoch m.moves m.body ∷ S) (one_sent S m.host m.epoch m.moves m.body old)

admits : (cs : List Admission) (S : List Doing) → AllFresh S → AllFresh (appended (admitting cs) S)
admits [] S old = old
admits (c ∷ cs) S old =
    admits cs (Admits c.host c.tokens ∷ S)
    (on S (Admits c.host c.tokens) (λ w e. cc) (λ h e n b q. cc) refl old)

begins : (S : List Doing) (n : ℕ) → AllFresh (BeginsEpoch n ∷ S)
begins S n w c (inl e) r k d sent f m = let q : BeginsEpoch n ≡ MakesWant w = e in cc
begins S n w c (inr x) r k d sent f m = x.1 (inr (inr (inr (n, refl))))

pub causes : (c : Cause) (S : List Doing) → AllFresh S → AllFresh (after_cause c S)
causes (Came m) S old = on S (Took m.host m.epoch m.moves m.body) (λ w e. cc) (λ h e n b q. cc) refl old
causes (Restart line) S old = begins S (suc (epoch S))
causes Flushed S old = on S Flushes (λ w e. cc) (λ h e n b q. cc) refl old
causes (Line line) S old = old
causes Lapse S old = old
causes Evict S old = old
causes (Freight freight) S old = on S (Gets freight.server freight.moves freight.body) (λ w e. cc) (λ h e n b q. cc) refl old
causes End S old = old

same_want : (v w : Wanted) → MakesWant v ≡ MakesWant w → v ≡ w
same_want v w e = cc

-- a new want is of a Change that isn't answered
pub wanted : (v : ServerId) (before : List Doing) (s : Step) (x : Wanted) (tree : Tree) (S : List Doing)
    → MayDecide v tree before S s (IsWanted x) → AllFresh S → AllFresh (MakesWant x ∷ S)
wanted v before s x tree S may old w c (inr k) r n d (inl e) f m = cc
wanted v before s x tree S may old w c (inr k) r n d (inr q) f m = old w c k.0 r n d q f m
wanted v before s x tree S may old w c (inl e) r n d (inl q) f m = cc
wanted v before s x tree S may old w c (inl e) r n d (inr q) f m =
    let one : x ≡ w = same_want x w e in
    elim may.1 [
      | inl new ↦ new.fresh (subst (λ (y : Request). IsOld S x.host y)
          (sym (ap (λ (z : Wanted). z.request) one ∙ r))
          (inr (
            epoch S,
            n,
            d,
            subst (λ (z : Wanted). SentTo S z.host (epoch S) n (Done d)) (sym one) q,
            f,
            inr (sym m, refl),
          )))
      | inr k ↦ (
          let was : k.0.host ≡ x.host = ap (λ (z : Wanted). z.host) k.1.same in
          let its : k.0.request ≡ x.request = ap (λ (z : Wanted). z.request) k.1.same in
          old k.0 c k.1.waits (its ∙ (ap (λ (z : Wanted). z.request) one ∙ r)) n d
          (subst (λ (h : HostId). SentTo S h (epoch S) n (Done d))
          (sym (was ∙ ap (λ (z : Wanted). z.host) one)) q) f m
          )
    ]

pub written_down : (x : Written) (S : List Doing) → AllFresh S → AllFresh (WritesDown x ∷ S)
written_down x S old = on S (WritesDown x) (λ w e. cc) (λ h e n b q. cc) refl old

decides : (v : ServerId) (before : List Doing) (s : Step) (xs : List Applied) (tree : Tree) (S : List Doing)
    → MayDecideAll v tree before S s xs → AllFresh S → AllFresh (appended (deciding xs) S)
decides v before s [] tree S may old = old
decides v before s (IsWanted x ∷ xs) tree S may old =
    decides v before s xs (filesets_after s.cause tree (IsWanted x)) (MakesWant x ∷ S) may.1
    (wanted v before s x tree S may.0 old)
decides v before s (IsDone x ∷ xs) tree S may old =
    decides v before s xs (filesets_after s.cause tree (IsDone x)) (WritesDown x ∷ S) may.1 (written_down x S old)
decides v before s (Replied x ∷ xs) tree S may old = elim may.0 [ ]
decides v before s (Stored h f ss n ∷ xs) tree S may old = elim may.0 [ ]
decides v before s (IsDown h ∷ xs) tree S may old = elim may.0 [ ]
decides v before s (IsMoved move ∷ xs) tree S may old = elim may.0 [ ]

step_fresh : (script : Script) (start : Tree) (v : ServerId) (steps : List Step) (S : List Doing) (s : Step)
    → ServerMay script start v steps S s → AllFresh S → AllFresh (after_step s S)
step_fresh script start v steps S s m old =
    on (after_shipping s S) (Reserves s.reserved) (λ w e. cc) (λ h e n b q. cc) refl
    (ships_keep AllFresh (λ T to n b was. on T (Puts to n b) (λ w e. cc) (λ h e n b q. cc) refl was) s.shipped
    (after_sending s S) (sents s.sent (after_admitting s S) (admits s.admitted (after_deciding s S)
    (subst AllFresh (sym (same_decisions s.applied (after_cause s.cause S)
    (works_none v (filesets_kept start v steps) S s m.works.applies)))
    (decides v S s (decisions s.applied) (filesets_through s.cause (by_cause s.applied) (filesets_kept start v steps))
    (after_cause s.cause S) m.works.decides (causes s.cause S old))))))

-- a list grows
later : {A : Type 0} (P : List A → A → Type 0) (xs ys : List A) → Once P ys → Once P (appended xs ys)
later P [] ys o = o
later P (x ∷ xs) ys o = later P xs (x ∷ ys) (inr o)

pub cause_sent : (c : Cause) (S : List Doing) (h : HostId) (e n : ℕ) (b : Body) → SentTo S h e n b
    → SentTo (after_cause c S) h e n b
cause_sent (Came m) S h e n b o = inr o
cause_sent (Restart line) S h e n b o = inr o
cause_sent Flushed S h e n b o = inr o
cause_sent (Line line) S h e n b o = o
cause_sent Lapse S h e n b o = o
cause_sent Evict S h e n b o = o
cause_sent (Freight freight) S h e n b o = inr o
cause_sent End S h e n b o = o

pub sent_later : (s : Step) (S : List Doing) (h : HostId) (e n : ℕ) (b : Body) → SentTo S h e n b
    → SentTo (after_step s S) h e n b
sent_later s S h e n b o =
    inr (later _ (shipping s.shipped) (after_sending s S) (later _ (sending s.sent) (after_admitting s S)
    (later _ (admitting s.admitted) (after_deciding s S)
    (later _ (deciding s.applied) (after_cause s.cause S) (cause_sent s.cause S h e n b o)))))

-- there is no server 0
none_zero : (xs : List (ℕ × ℕ)) (v : ServerId)
    → In v (map (λ (at, capacity). let server : ServerId = record { 0 = at + 1 } in server) xs) → v.0 ≡ 0 → ⊥
none_zero [] v i z = elim i [ ]
none_zero (x ∷ xs) v (inl e) z =
    let q : v.0 ≡ x.0 + 1 = ap (λ (w : ServerId). w.0) e in omega (arith, q, z)
none_zero (x ∷ xs) v (inr i) z = none_zero xs v i z

module _ (script : Script) (start : Tree) (firsts : ServerId → ℕ) (real : (v : ServerId) → 0 < firsts v) where
  fresh_after : (s : Step) (past : List Step) → ((v : ServerId) → AllFresh (doings_of (firsts v) v past)) → (v : ServerId)
      → (n : Node) → StepMeets script start firsts n past s → AllFresh (acts_after v n s (doings_of (firsts v) v past))
  fresh_after s past old v (Host k) m = old v
  fresh_after s past old v (Server k) m =
      if_server AllFresh k v (after_step s (doings_of (firsts v) v past)) (doings_of (firsts v) v past)
      (λ e. subst (λ (w : ServerId). AllFresh (after_step s (doings_of (firsts w) w past))) e
      (step_fresh script start k (steps_of_server k past) (doings_of (firsts k) k past) s m.0 (old k)))
      (old v)

  all_fresh : (past : List Step) → StepsMeet script start firsts past → (v : ServerId)
      → AllFresh (doings_of (firsts v) v past)
  all_fresh [] run v = begins [] (firsts v)
  all_fresh (s ∷ past) run v = fresh_after s past (all_fresh past run.0) v s.node run.1.0

  pub fresh_now : (past : List Step) → StepsMeet script start firsts past → (v : ServerId)
      → AllFresh (doings_of (firsts v) v past)
  fresh_now past run v = all_fresh past run v

  -- so none sends
  still_silent : (s : Step) (past : List Step) (v : ServerId) → v.0 ≡ 0 → (h : HostId) (e n : ℕ) (b : Body)
      → (SentTo (doings_of (firsts v) v past) h e n b → ⊥) → (k : Node) → TakesPart script k
      → SentTo (acts_after v k s (doings_of (firsts v) v past)) h e n b → ⊥
  still_silent s past v z h e n b old (Host k) part q = old q
  still_silent s past v z h e n b old (Server k) part q =
      if_server (λ S. SentTo S h e n b → ⊥) k v (after_step s (doings_of (firsts v) v past)) (doings_of (firsts v) v past)
      (λ same. absurd (none_zero _ k part (ap (λ (w : ServerId). w.0) same ∙ z))) old q

  pub zero_silent : (past : List Step) → StepsMeet script start firsts past → (v : ServerId) → v.0 ≡ 0 → (h : HostId)
      (e n : ℕ) (b : Body) → SentTo (doings_of (firsts v) v past) h e n b → ⊥
  zero_silent [] run v z h e n b (inl q) = cc
  zero_silent [] run v z h e n b (inr q) = elim q [ ]
  zero_silent (s ∷ past) run v z h e n b sent =
      still_silent s past v z h e n b (zero_silent past run.0 v z h e n b) s.node run.1.2 sent

  -- a Change goes to where its fileset is
  pub said_at : (h : HostId) (A : List Step) → HostRun script h A → (v : ServerId) (e n : ℕ) (c : ChangeOf)
      → Said A v e n (Change c) → (c.fileset.0 ≡ 0) ⊎ (home c.fileset ≡ v)
  said_at h [] run v e n c said = elim said [ ]
  said_at h (s ∷ A) run v e n c (inr said) = said_at h A run.0 v e n c said
  said_at h (s ∷ A) run v e n c (inl sends) =
      elim (run.1.tokens.changes c v e n sends).0 [
        | inl z ↦ inl z.0
        | inr at ↦ inr (ap (λ (p : Stay). p.server) at)
      ]

  -- a message with a Done raises no epoch
  done_raises_none : (c : Cause) (m : Message) (d : DoneOf) (v : ServerId) (n : ℕ) → c ≡ Came m → m.body ≡ Done d
      → epoch_raised c v n ≡ n
  done_raises_none c m d v n e body =
      ap (λ (x : Cause). epoch_raised x v n) e
      ∙ ap (λ (b : Body). epoch_raised_by b (m.server.0 == v.0) m.epoch n) body

  pub zero_home : (fs : FilesetId) → fs.0 ≡ 0 → (home fs).0 ≡ 0
  unfolding home
  zero_home fs z = ap (λ n. n / 65536) z

  module _ (h : HostId) (v : ServerId) (e n : ℕ) (c : ChangeOf) where
    abbrev Never : List Step → Type 0
    Never past = (k : ℕ) (d : DoneOf) → SentTo (doings_of (firsts v) v past) h e k (Done d) → d.fileset ≡ c.fileset
        → d.bring.number ≡ c.number → ⊥

    -- no Done that comes in the step settles it
    none_settles : (past : List Step) → StepsMeet script start firsts past → (s : Step) → CameToHost firsts h past s
        → epoch_at (s ∷ steps_of_host h past) v ≡ e → (c.fileset.0 ≡ 0) ⊎ (home c.fileset ≡ v) → Never past → (d : DoneOf)
        → DoneComes (steps_of_host h past) s v d → d.fileset ≡ c.fileset → d.bring.number ≡ c.number → ⊥
    none_settles past run s came now at never d settles files numbers = by settles
      where
        of : (w : ServerId) (k : ℕ) → ComesIn s w (epoch_at (steps_of_host h past) w) k (Done d) → (w ≡ v) ⊎ (w.0 ≡ 0) → ⊥
        of w k (m, cause, server, epoch_is, moves, body) to =
            let sent = (came m cause).2 in
            let said = subst (λ (y : ServerId × ℕ × ℕ × Body). SentTo (doings_of (firsts y.0) y.0 past) h y.1 y.2 y.3)
            (λ i. (server i, epoch_is i, moves i, body i)) sent in
            elim to [
              | inr z ↦ zero_silent past run w z h (epoch_at (steps_of_host h past) w) k (Done d) said
              | inl same ↦ (
                  let mine = subst (λ (x : ServerId). SentTo (doings_of (firsts x) x past) h (epoch_at (steps_of_host h past) x) k
                  (Done d))
                  same said in
                  let stays : epoch_at (steps_of_host h past) v ≡ e =
                  sym (done_raises_none s.cause m d v (epoch_at (steps_of_host h past) v) cause body) ∙ now in
                  never k d (subst (λ (x : ℕ). SentTo (doings_of (firsts v) v past) h x k (Done d)) stays mine) files numbers
                  )
            ]

        by : DoneComes (steps_of_host h past) s v d → ⊥
        by (inl (z, comes)) = of v 0 comes (inl refl)
        by (inr about) =
            of (home d.fileset) 0 about (elim at [
              | inl z ↦ inr (zero_home d.fileset (ap (λ (f : FilesetId). f.0) files ∙ z))
              | inr there ↦ inl (ap home files ∙ there)
            ])

    -- what was said in this epoch and isn't answered is outstanding
    abbrev Outstanding : List Step → List Step → Type 0
    Outstanding past A = Said A v e n (Change c) → epoch_at A v ≡ e → Never past → Changing A v c.fileset c.number

    module _ (s : Step) (past : List Step) (run : StepsMeet script start firsts (s ∷ past))
        (old : Outstanding past (steps_of_host h past)) where
      abbrev A : List Step
      A = steps_of_host h past

      grown : (m : Node) (k : ℕ) (d : DoneOf) → SentTo (doings_of (firsts v) v past) h e k (Done d)
          → SentTo (acts_after v m s (doings_of (firsts v) v past)) h e k (Done d)
      grown (Host j) k d sent = sent
      grown (Server j) k d sent =
          if_server (λ S. SentTo S h e k (Done d)) j v (after_step s (doings_of (firsts v) v past)) (doings_of (firsts v) v past)
          (λ same. sent_later s (doings_of (firsts v) v past) h e k (Done d) sent) sent

      mine : StepMeets script start firsts (Host h) past s → Outstanding past (s ∷ A)
      mine m (inl sends) now none = (
        inl (c, (v, e, n, sends, λ z. refl), refl, refl),
        none_settles past run.0 s m.1 now (elim (m.0.tokens.changes c v e n sends).0 [
          | inl z ↦ inl z.0
          | inr at ↦ inr (ap (λ (p : Stay). p.server) at)
        ]) none,
      )
      mine m (inr said) now none =
          let le = ((whole script start firsts real past run.0).alone h).said_epoch v e n (Change c) said in
          let up = epoch_grows A s v in
          let same : epoch_at A v ≡ e = omega (arith, le, up, now) in (
            inr (old said same none),
            none_settles past run.0 s m.1 now
                (said_at h A (own_run script start firsts past run.0 h) v e n c said) none,
          )

      at_node : (m : Node) → StepMeets script start firsts m past s → Outstanding past (own_after h m s A)
      at_node (Server k) m = old
      at_node (Host k) m =
          host_split (Outstanding past) k h (s ∷ A) A
          (λ same. mine (subst (λ (g : HostId). StepMeets script start firsts (Host g) past s) same m)) (λ two. old)

    pub still_changing : (past : List Step) → StepsMeet script start firsts past → Outstanding past (steps_of_host h past)
    still_changing [] run said now never = elim said [ ]
    still_changing (s ∷ past) run said now never =
        at_node s past run (still_changing past run.0) s.node run.1.0 said now
        (λ k d sent. never k d (grown s past run (still_changing past run.0) s.node k d sent))
