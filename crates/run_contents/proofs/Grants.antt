-- What a server's Grants bring.
use Rattle.std.proofs.Common.{◌≡◌, ℕ, suc, List, [], ◌∷◌, false, inl, inr, sym, ◌∙◌, subst, refl}
use Rattle.std.specs.List.{list_any}
use Rattle.base_types.specs.declared.ids.HostId.{HostId}
use Rattle.base_types.specs.declared.ids.Node.{Node}
use Rattle.base_types.specs.declared.ids.Node.TheVariants.{Host, Server}
use Rattle.base_types.specs.declared.ids.ServerId.{ServerId}
use Rattle.tree_answers.specs.declared.tree.Tree.{Tree}
use Rattle.message_types.specs.declared.asking.Fetch.{Fetch as FetchOf}
use Rattle.message_types.specs.declared.message.Body.{Body}
use Rattle.message_types.specs.declared.message.Body.TheVariants.{Fetch}
use Rattle.message_types.specs.declared.message.Message.{Message}
use Rattle.message_types.specs.declared.telling.Grant.{Grant as GrantOf}
use Rattle.script_lines.specs.declared.script.Script.{Script}
use Rattle.token_types.specs.Conflicts.{need_of}
use Rattle.token_types.specs.declared.token.Token.{Token}
use Rattle.run_rules.specs.Doings.{after_shipping}
use Rattle.run_rules.specs.Doings.{Doing, IsNewEpoch, TakenNow, TookNow, admitting, after_admitting, after_cause}
use Rattle.run_rules.specs.Doings.{after_deciding, after_sending, after_step, deciding, doings_of, epoch, sending}
use Rattle.run_rules.specs.Doings.Doing.{Gets, Puts}
use Rattle.run_rules.specs.Doings.Doing.{Admits, BeginsEpoch, Flushes, MakesWant, Reserves, Sent, Took, WritesDown}
use Rattle.run_rules.specs.Kept.{filesets_after, filesets_kept, filesets_through}
use Rattle.run_rules.specs.Past.{EachInTurn, In, appended}
use Rattle.run_rules.specs.Runs.{IsRun, StepMeets, StepsMeet, firsts_of, past_of}
use Rattle.run_rules.specs.ServerDecides.{MayDecide, MayDecideAll, by_cause, decisions}
use Rattle.run_rules.specs.ServerMay.{GrantsSo, MaySend, ServerMay}
use Rattle.run_rules.specs.Steps.{steps_of_server}
use Rattle.run_rules.specs.Wants.{IsQueued, body_of}
use Rattle.run_rules.specs.declared.applied.Applied.TheVariants.{Done as IsDone, IsDown, Replied, Stored}
use Rattle.run_rules.specs.declared.applied.Applied.TheVariants.{Moves as IsMoved, Wants as IsWanted}
use Rattle.run_rules.specs.declared.journal.Journal.{Journal}
use Rattle.run_contents.specs.Laws.{EachSent, GrantsAreAsked, GrantsAtNode, GrantsBringNeeds}
use Rattle.run_contents.proofs.Words.{one_needed}
use Rattle.run_tokens.proofs.Words.{acts_after, if_server}
use Rattle.run_rules.specs.declared.applied.Admission.{Admission}
use Rattle.run_rules.specs.declared.applied.Applied.{Applied}
use Rattle.run_rules.specs.declared.applied.Request.{Request}
use Rattle.run_rules.specs.declared.applied.Wanted.{Wanted}
use Rattle.run_rules.specs.declared.applied.Written.{Written}
use Rattle.run_rules.specs.declared.step.Cause.{Cause}
use Rattle.run_rules.specs.declared.step.Cause.TheVariants.{End, Evict, Flushed, Freight, Lapse, Line, Message as Came}
use Rattle.run_rules.specs.declared.step.Cause.TheVariants.{Restart}
use Rattle.run_tokens.specs.Unmoved.{is_move}
use Rattle.run_tokens.proofs.TokenRun.{works_none}
use Rattle.run_tokens.proofs.Ships.{ships_keep}
use Rattle.run_rules.specs.declared.step.Step.{Step}

-- a request that waits was taken in this epoch
abbrev pub IsTaken : List Doing → Wanted → Type 0
IsTaken S w = TookNow S w.host w.moves (body_of w.request)

abbrev pub AllTaken : List Doing → Type 0
AllTaken S = (w : Wanted) → IsQueued S w → IsTaken S w

-- what is no want changes nothing of that
on : (S : List Doing) (a : Doing) → ((w : Wanted) → a ≡ MakesWant w → ⊥) → AllTaken S → AllTaken (a ∷ S)
on S a never old w (inl e) = absurd (never w e)
on S a never old w (inr k) = inr (old w k.0, λ b. k.1 (inr (inr (inr b))))

sents : (ms : List Message) (S : List Doing) → AllTaken S → AllTaken (appended (sending ms) S)
sents [] S old = old
sents (m ∷ ms) S old =
    sents ms (Sent m.host m.epoch m.moves m.body ∷ S)
    (on S (Sent m.host m.epoch m.moves m.body) (λ w e. absurd (cc)) old)

admits : (cs : List Admission) (S : List Doing) → AllTaken S → AllTaken (appended (admitting cs) S)
admits [] S old = old
admits (c ∷ cs) S old =
    admits cs (Admits c.host c.tokens ∷ S) (on S (Admits c.host c.tokens) (λ w e. absurd (cc)) old)

-- a new epoch forgets all wants
begins : (S : List Doing) (n : ℕ) → AllTaken (BeginsEpoch n ∷ S)
begins S n w (inl e) = absurd (let q : BeginsEpoch n ≡ MakesWant w = e in cc)
begins S n w (inr k) = absurd (k.1 (inr (inr (inr (n, refl)))))

pub causes : (c : Cause) (S : List Doing) → AllTaken S → AllTaken (after_cause c S)
causes (Came m) S old = on S (Took m.host m.epoch m.moves m.body) (λ w e. absurd (cc)) old
causes (Restart line) S old = begins S (suc (epoch S))
causes Flushed S old = on S Flushes (λ w e. absurd (cc)) old
causes (Line line) S old = old
causes Lapse S old = old
causes Evict S old = old
causes (Freight freight) S old = on S (Gets freight.server freight.moves freight.body) (λ w e. absurd (cc)) old
causes End S old = old

-- what is taken in a step is so once its cause is
message_of : (c : Cause) (m n : Message) → c ≡ Came m → c ≡ Came n → m ≡ n
message_of c m n p q = let r : Came m ≡ Came n = sym p ∙ q in cc

pub taken_took : (S : List Doing) (s : Step) (h : HostId) (n : ℕ) (b : Body) → TakenNow S s h n b
    → TookNow (after_cause s.cause S) h n b
taken_took S s h n b ((m, cause, host, now, moves, body), live) =
    subst (λ c. TookNow (after_cause c S) h n b) (sym cause)
    (inl ((λ i. Took (host i) (now i) (moves i) (body i)), live))

-- the decisions alone make wants
pub same_decisions : (xs : List Applied) (S : List Doing) → list_any is_move xs ≡ false
    → appended (deciding xs) S ≡ appended (deciding (decisions xs)) S
same_decisions [] S none = refl
same_decisions (IsWanted x ∷ xs) S none = refl
same_decisions (IsDone x ∷ xs) S none = refl
same_decisions (Replied x ∷ xs) S none = same_decisions xs S none
same_decisions (Stored h f ss n ∷ xs) S none = same_decisions xs S none
same_decisions (IsDown h ∷ xs) S none = same_decisions xs S none
same_decisions (IsMoved move ∷ xs) S none = absurd (cc)

same_want : (v w : Wanted) → MakesWant v ≡ MakesWant w → v ≡ w
same_want v w e = cc

module _ (v : ServerId) (before : List Doing) (s : Step) where
  -- what the step takes was taken
  abbrev pub Heard : List Doing → Type 0
  Heard S = (h : HostId) (n : ℕ) (b : Body) → TakenNow before s h n b → TookNow S h n b

  heard_on : (S : List Doing) (a : Doing) → (IsNewEpoch a → ⊥) → Heard S → Heard (a ∷ S)
  heard_on S a quiet old h n b t = inr (old h n b t, quiet)

  -- after one decision what waits was taken, and so was what the step takes
  pub wanted : (x : Wanted) (tree : Tree) (S : List Doing) → MayDecide v tree before S s (IsWanted x) → AllTaken S
      → Heard S → AllTaken (MakesWant x ∷ S) × Heard (MakesWant x ∷ S)
  wanted x tree S may old heard = (now, heard_on S (MakesWant x) (λ b. let q = b.1 in cc) heard)
    where
      took : IsTaken S x
      took = elim may.1 [
        | inl new ↦ heard x.host x.moves (body_of x.request) new.taken
        | inr k ↦ subst (λ (z : Wanted). TookNow S z.host z.moves (body_of z.request)) k.1.same (old k.0 k.1.waits)
      ]

      now : AllTaken (MakesWant x ∷ S)
      now w (inl e) =
          inr (
            subst (IsTaken S) (same_want x w e) took,
            λ b. (let q = b.1 in cc),
          )
      now w (inr k) = inr (old w k.0, λ b. k.1 (inr (inr (inr b))))

  pub written_down : (x : Written) (S : List Doing) → AllTaken S → Heard S
      → AllTaken (WritesDown x ∷ S) × Heard (WritesDown x ∷ S)
  written_down x S old heard =
      (on S (WritesDown x) (λ w e. absurd (cc)) old, heard_on S (WritesDown x) (λ b. let q = b.1 in cc) heard)

  decides : (xs : List Applied) (tree : Tree) (S : List Doing) → MayDecideAll v tree before S s xs → AllTaken S
      → Heard S → AllTaken (appended (deciding xs) S)
  decides [] tree S may old heard = old
  decides (IsWanted x ∷ xs) tree S may old heard =
      let q = wanted x tree S may.0 old heard in
      decides xs (filesets_after s.cause tree (IsWanted x)) (MakesWant x ∷ S) may.1 q.0 q.1
  decides (IsDone x ∷ xs) tree S may old heard =
      let q = written_down x S old heard in
      decides xs (filesets_after s.cause tree (IsDone x)) (WritesDown x ∷ S) may.1 q.0 q.1
  decides (Replied x ∷ xs) tree S may old heard = elim may.0 [ ]
  decides (Stored h f ss n ∷ xs) tree S may old heard = elim may.0 [ ]
  decides (IsDown h ∷ xs) tree S may old heard = elim may.0 [ ]
  decides (IsMoved move ∷ xs) tree S may old heard = elim may.0 [ ]

module _ (script : Script) (start : Tree) (v : ServerId) (steps : List Step) (S : List Doing) (s : Step)
    (m : ServerMay script start v steps S s) (old : AllTaken S) where
  written : AllTaken (after_deciding s S)
  written =
      subst AllTaken (sym (same_decisions s.applied (after_cause s.cause S)
      (works_none v (filesets_kept start v steps) S s m.works.applies)))
      (decides v S s (decisions s.applied)
      (filesets_through s.cause (by_cause s.applied) (filesets_kept start v steps)) (after_cause s.cause S) m.works.decides
      (causes s.cause S old) (taken_took S s))

  admitted : AllTaken (after_admitting s S)
  admitted = admits s.admitted (after_deciding s S) written

  done : AllTaken (after_step s S)
  done =
      on (after_shipping s S) (Reserves s.reserved) (λ w e. absurd (cc))
      (ships_keep AllTaken (λ T to n b was. on T (Puts to n b) (λ w e. absurd (cc)) was) s.shipped (after_sending s S)
      (sents s.sent (after_admitting s S) admitted))

  -- a Grant brings what a Fetch that was taken asks for
  pub granted : (tree : Tree) (S : List Doing) → AllTaken S → (h : HostId) (n : ℕ) (g : GrantOf) → GrantsSo v tree S h n g
      → (f : FetchOf) × (k : ℕ) × TookNow S h k (Fetch f) × (f.number ≡ g.bring.number) × (f.fid ≡ g.bring.fid)
      × ((t : Token) → In t g.bring.tokens → In (need_of t) f.needs)
  granted tree S taken h n g k = (
    k.fetch,
    k.w.moves,
    subst (λ (y : HostId × Request). TookNow S y.0 k.w.moves (body_of y.1)) (λ i. (k.host i, k.request i))
        (taken k.w k.waits),
    sym k.number,
    sym k.fid,
    λ t i. elim k.brings [
      | inl b ↦ one_needed k.fetch.needs g.bring.tokens b.1 t i
      | inr b ↦ elim (subst (In t) b.1.tokens i) [ ]
    ],
  )

  each_sent : (tree : Tree) (ms : List Message) (S : List Doing) → AllTaken S → EachInTurn (MaySend v tree s) (sending ms) S
      → EachSent GrantsAreAsked ms S
  each_sent tree [] S taken may = tt
  each_sent tree (x ∷ ms) S taken may = (
    λ h e n g is. granted tree S taken h n g (may.0.grant_for h e n g is),
    each_sent tree ms (Sent x.host x.epoch x.moves x.body ∷ S)
        (on S (Sent x.host x.epoch x.moves x.body) (λ w e. absurd (cc)) taken) may.1,
  )

  all_sent : EachSent GrantsAreAsked s.sent (after_admitting s S)
  all_sent = each_sent (filesets_through s.cause s.applied (filesets_kept start v steps)) s.sent
      (after_admitting s S) admitted m.works.sends

module _ (script : Script) (start : Tree) (firsts : ServerId → ℕ) where
  first : (v : ServerId) → AllTaken (BeginsEpoch (firsts v) ∷ [])
  first v = begins [] (firsts v)

  after_node : (n : Node) (past : List Step) (s : Step) → StepMeets script start firsts n past s
      → ((v : ServerId) → AllTaken (doings_of (firsts v) v past))
      → (v : ServerId) → AllTaken (acts_after v n s (doings_of (firsts v) v past))
  after_node (Host k) past s m old v = old v
  after_node (Server k) past s m old v =
      if_server AllTaken k v (after_step s (doings_of (firsts v) v past)) (doings_of (firsts v) v past)
      (λ e. subst (λ w. AllTaken (after_step s (doings_of (firsts w) w past))) e
      (done script start k (steps_of_server k past) (doings_of (firsts k) k past) s m.0 (old k))) (old v)

  pub all_taken : (past : List Step) → StepsMeet script start firsts past → (v : ServerId)
      → AllTaken (doings_of (firsts v) v past)
  all_taken [] run v = first v
  all_taken (s ∷ past) run v = after_node s.node past s run.1.0 (all_taken past run.0) v

  at_node : (n : Node) (past : List Step) (s : Step) → StepMeets script start firsts n past s
      → ((v : ServerId) → AllTaken (doings_of (firsts v) v past)) → GrantsAtNode firsts n past s
  at_node (Host host) past s m old = tt
  at_node (Server v) past s m old = all_sent script start v (steps_of_server v past) (doings_of (firsts v) v past) s m.0 (old v)

  pub bring_needs : (past : List Step) → StepsMeet script start firsts past → GrantsBringNeeds firsts past
  bring_needs [] run = tt
  bring_needs (s ∷ past) run = (bring_needs past run.0, at_node s.node past s run.1.0 (all_taken past run.0))

pub grants_bring_needs : (script : Script) (journal : Journal) → IsRun script journal
    → GrantsBringNeeds (firsts_of journal) (past_of journal)
grants_bring_needs script journal run =
    bring_needs script run.start (firsts_of journal) (past_of journal) run.steps
