-- In every run the names by which hosts have entered filesets lead to these.
use Rattle.std.proofs.Common.{Bool, List, Ok, Some, ap, arith, false, inl, inr, refl, subst, sym, true, ℕ, ◌∙◌, ◌<◌}
use Rattle.std.proofs.Common.{◌==◌, ◌∷◌, ◌≡◌}
use Rattle.std.proofs.lemmas.Bool.{false≢true}
use Rattle.std.specs.Prelude.{[], if◌then◌else◌}
use Rattle.base_types.specs.declared.ids.FilesetId.{FilesetId}
use Rattle.base_types.specs.declared.ids.HostId.{HostId}
use Rattle.base_types.specs.declared.ids.Node.{Node}
use Rattle.base_types.specs.declared.ids.Node.TheVariants.{Host, Server}
use Rattle.base_types.specs.declared.ids.ServerId.{ServerId}
use Rattle.tree_filesets.proofs.Targets.{ok_is, then_ok}
use Rattle.tree_filesets.specs.declared.fileset.Fileset.{Fileset}
use Rattle.need_host.specs.Questions.{fileset_of}
use Rattle.tree_answers.specs.Finding.{fileset_named}
use Rattle.tree_answers.specs.declared.tree.Tree.{Tree}
use Rattle.need_server.proofs.KeptTree.{same_named as kept_named}
use Rattle.need_server.specs.Kept.{kept_fileset, kept_tree}
use Rattle.message_types.specs.declared.asking.Change.{Change as ChangeOf}
use Rattle.message_types.specs.declared.message.Body.{Body}
use Rattle.message_types.specs.declared.message.Body.TheVariants.{Change, Done}
use Rattle.message_types.specs.declared.message.Message.{Message}
use Rattle.message_types.specs.declared.telling.Done.{Done as DoneOf}
use Rattle.message_types.specs.declared.telling.DoneIs.TheVariants.{Again, Granted as IsGranted, Known, Reply as HasReply}
use Rattle.script_lines.specs.declared.script.Script.{Script}
use Rattle.need_laws.proofs.Founds.{same_named}
use Rattle.need_laws.specs.Known.{SameAt}
use Rattle.run_rules.specs.Doings.{Doing, SentTo, TookNow, admitting, after_admitting, after_cause, after_deciding}
use Rattle.run_rules.specs.Doings.{after_step, deciding, doings_of, sending}
use Rattle.run_rules.specs.Doings.Doing.{BeginsEpoch, Sent, Took}
use Rattle.run_rules.specs.HostAsks.{HasChanged, IsNewChange}
use Rattle.run_rules.specs.HostMay.{HostMay}
use Rattle.run_rules.specs.Kept.{filesets_kept, filesets_through}
use Rattle.run_rules.specs.Messages.{Said}
use Rattle.run_rules.specs.Past.{Always, In, Once, appended}
use Rattle.run_rules.specs.Runs.{StepMeets, StepsMeet, firsts_of, past_of}
use Rattle.run_rules.specs.ServerMay.{AnsweredSo, AnswersSo, DoneFor, HasWritten, MaySend}
use Rattle.run_rules.specs.ServerMay.AnsweredSo.{IsEntered, NamesOther, TakesToken}
use Rattle.run_rules.specs.ServerMay.DoneFor.{Answered, OfWritten, Repeated, TakenBack}
use Rattle.run_rules.specs.Steps.{is_node, steps_of_host, steps_of_server}
use Rattle.run_rules.specs.Views.{Entered, Enters}
use Rattle.run_rules.specs.Wants.{body_of}
use Rattle.run_history.specs.Agreement.{LeadsTo}
use Rattle.run_contents.proofs.Bodies.{server_is}
use Rattle.run_contents.proofs.Calls.{one_open}
use Rattle.run_contents.proofs.Runs.{own_run}
use Rattle.run_contents.proofs.Servers.{took_in}
use Rattle.run_contents.specs.Steps.{HostRun}
use Rattle.run_tokens.proofs.Words.{acts_after, if_host, if_server, own_after}
use Rattle.run_rules.specs.declared.step.Asked.{Asked as AskedOf}
use Rattle.run_rules.specs.declared.step.Cause.{Cause}
use Rattle.run_rules.specs.declared.step.Cause.TheVariants.{Flushed, Message as Came, Restart}
use Rattle.run_rules.specs.declared.step.Step.{Step}
use Rattle.run_history.proofs.Asking.{all_well, told_by}
use Rattle.run_history.proofs.Sending.{AllSent, Good, after_sends}
use Rattle.run_history.specs.Asked.{AsksRightly}
use Rattle.run_history.specs.Asked.AsksRightly.{Decides, Enters as AsksToEnter, Moves}
use Rattle.run_tokens.proofs.Ships.{once_shipped}
use Rattle.run_rules.specs.declared.step.Cause.TheVariants.{Freight}
use Rattle.run_rules.specs.Doings.{after_sending}
use Rattle.run_history.specs.Names.{NamesAreKnown, NamesGoOn, NamesStand, NamesStartSo}

-- what was sent stays so, and what was said
once_after : {A : Type 0} (P : List A → A → Type 0) (more past : List A) → Once P past → Once P (appended more past)
once_after P [] past o = o
once_after P (x ∷ more) past o = once_after P more (x ∷ past) (inr o)

module _ (h : HostId) (e n : ℕ) (b : Body) where
  cause_keeps : (c : Cause) (S : List Doing) → SentTo S h e n b → SentTo (after_cause c S) h e n b
  cause_keeps (Came m) S o = inr o
  cause_keeps (Restart line) S o = inr o
  cause_keeps Flushed S o = inr o
  cause_keeps (Freight freight) S o = inr o
  cause_keeps _ S o = o

  step_keeps : (s : Step) (S : List Doing) → SentTo S h e n b → SentTo (after_step s S) h e n b
  step_keeps s S o =
      inr (once_shipped (λ before a. a ≡ Sent h e n b) s.shipped (after_sending s S)
      (once_after (λ before a. a ≡ Sent h e n b) (sending s.sent) (after_admitting s S)
      (once_after (λ before a. a ≡ Sent h e n b) (admitting s.admitted) (after_deciding s S)
      (once_after (λ before a. a ≡ Sent h e n b) (deciding s.applied) (after_cause s.cause S)
      (cause_keeps s.cause S o)))))

  node_keeps : (k : Node) (s : Step) (v : ServerId) (S : List Doing) → SentTo S h e n b
      → SentTo (acts_after v k s S) h e n b
  node_keeps (Host k) s v S o = o
  node_keeps (Server k) s v S o =
      if_server (λ T. SentTo T h e n b) k v (after_step s S) S (λ _. step_keeps s S o) o

said_keeps : (k : Node) (s : Step) (h : HostId) (A : List Step) (v : ServerId) (e n : ℕ) (b : Body) → Said A v e n b
    → Said (own_after h k s A) v e n b
said_keeps (Server k) s h A v e n b o = o
said_keeps (Host k) s h A v e n b o = if_host (λ L. Said L v e n b) k h (s ∷ A) A (λ _. inr o) o

-- Changes of one number, under no fileset, are about one call
module _ (script : Script) (h : HostId) where
  abbrev SameNumbered : ChangeOf → ChangeOf → Type 0
  SameNumbered c d = (c.fileset ≡ d.fileset) × (c.number ≡ d.number) × (c.fileset.0 ≡ 0)

  turned : (c d : ChangeOf) → SameNumbered c d → SameNumbered d c
  turned c d (f, n, z) = (sym f, sym n, ap (λ (x : FilesetId). x.0) (sym f) ∙ z)

  -- a new number is above that of each earlier one
  above : (A : List Step) (s : Step) (m : HostMay script h A s) (v : ServerId) (n : ℕ) (c d : ChangeOf)
      → IsNewChange script.roster h A s m.stance v n c → HasChanged A v d → SameNumbered c d → ⊥
  above A s m v n c d new has (f, k, z) =
      let lt : d.number < c.number = new.next.above d.number (d, has, sym f, refl) in
      omega (arith, lt, k)

  same_call : (A : List Step) → HostRun script h A → (v : ServerId) (e n k j : ℕ) (c d : ChangeOf)
      → Said A v e n (Change c) → Said A v k j (Change d) → SameNumbered c d → c.call ≡ d.call
  same_call [] run v e n k j c d a b same = elim a [ ]
  same_call (s ∷ A) run v e n k j c d (inr a) (inr b) same = same_call A run.0 v e n k j c d a b same
  same_call (s ∷ A) run v e n k j c d (inl a) (inr b) same = elim (run.1.asks.changes v e n c a) [
    | inl old ↦ (
        let was = old.0 in
        same_call A run.0 v was.1 was.2 k j c d
        (subst (λ w. Said A w was.1 was.2 (Change c)) (was.4 same.2) was.3) b same
        )
    | inr new ↦ absurd (above A s run.1 v n c d new (v, k, j, b, λ _. refl) same)
  ]
  same_call (s ∷ A) run v e n k j c d (inr a) (inl b) same = elim (run.1.asks.changes v k j d b) [
    | inl old ↦ (
        let was = old.0 in
        let zero : d.fileset.0 ≡ 0 = (turned c d same).2 in
        same_call A run.0 v e n was.1 was.2 c d a
        (subst (λ w. Said A w was.1 was.2 (Change d)) (was.4 zero) was.3) same
        )
    | inr new ↦ absurd (above A s run.1 v j d c new (v, e, n, a, λ _. refl) (turned c d same))
  ]
  same_call (s ∷ A) run v e n k j c d (inl a) (inl b) same = elim (run.1.asks.changes v e n c a) [
    | inl old ↦ (
        let was = old.0 in
        let said : Said A v was.1 was.2 (Change c) =
        subst (λ w. Said A w was.1 was.2 (Change c)) (was.4 same.2) was.3 in
        elim (run.1.asks.changes v k j d b) [
          | inl older ↦ (
              let that = older.0 in
              let zero : d.fileset.0 ≡ 0 = (turned c d same).2 in
              same_call A run.0 v was.1 was.2 that.1 that.2 c d said
              (subst (λ w. Said A w that.1 that.2 (Change d)) (that.4 zero) that.3) same
              )
          | inr new ↦ absurd (above A s run.1 v j d c new (v, was.1, was.2, said, λ _. refl) (turned c d same))
        ]
        )
    | inr new ↦ elim (run.1.asks.changes v k j d b) [
      | inl older ↦ (
          let that = older.0 in
          let zero : d.fileset.0 ≡ 0 = (turned c d same).2 in
          absurd (above A s run.1 v n c d new
          (v, that.1, that.2, subst (λ w. Said A w that.1 that.2 (Change d)) (that.4 zero) that.3, λ _. refl) same)
          )
      | inr newer ↦
          ap (λ (z : AskedOf). z.call) (one_open script h (s ∷ A) run (record { k = c.k; call = c.call })
          (record { k = d.k; call = d.call }) new.is_open newer.is_open)
    ]
  ]

-- what a host has entered a server told it
pub record WasTold (firsts : ServerId → ℕ) (past : List Step) (h : HostId) (server : ServerId) (name : List ℕ)
    (id : FilesetId) : Type 0 where
  pub done : DoneOf
  pub told_in : ℕ
  pub told_under : ℕ
  pub sent : SentTo (doings_of (firsts server) server past) h told_in told_under (Done done)
  pub outcome : done.outcome ≡ Known id
  pub change : ChangeOf
  pub epoch : ℕ
  pub moves : ℕ
  pub said : Said (steps_of_host h past) server epoch moves (Change change)
  pub zero : change.fileset.0 ≡ 0
  pub fileset : change.fileset ≡ done.fileset
  pub number : change.number ≡ done.bring.number
  pub asks : fileset_of change.call ≡ Some (server, name)

module _ (script : Script) (start : Tree) (firsts : ServerId → ℕ) where
  told_on : (past : List Step) (s : Step) (h : HostId) (server : ServerId) (name : List ℕ) (id : FilesetId)
      → WasTold firsts past h server name id → WasTold firsts (s ∷ past) h server name id
  told_on past s h server name id t = record {
    done = t.done;
    told_in = t.told_in;
    told_under = t.told_under;
    sent = node_keeps h t.told_in t.told_under (Done t.done) s.node s server (doings_of (firsts server) server past) t.sent;
    outcome = t.outcome;
    change = t.change;
    epoch = t.epoch;
    moves = t.moves;
    said = said_keeps s.node s h (steps_of_host h past) server t.epoch t.moves (Change t.change) t.said;
    zero = t.zero;
    fileset = t.fileset;
    number = t.number;
    asks = t.asks;
  }

  -- in the very step
  told_now : (past : List Step) (run : StepsMeet script start firsts past) (h : HostId) (s : Step)
      → StepMeets script start firsts (Host h) past s → (server : ServerId) (name : List ℕ) (id : FilesetId)
      → Enters (steps_of_host h past) s server name id → WasTold firsts past h server name id
  told_now past run h s m server name id entered =
      let (c, d, e, n, said, enter, of, counts, number, fileset, outcome) = entered in
      let well = all_well script start firsts past run h in
      let by = told_by script start firsts past run h s m well server name id entered in
      record {
        done = d;
        told_in = by.0;
        told_under = by.1;
        sent = by.2;
        outcome = outcome;
        change = c;
        epoch = e;
        moves = n;
        said = said;
        zero = (well.asked server e n c said).under enter;
        fileset = sym fileset;
        number = sym number;
        asks = of;
      }

  told_node : (k : Node) (past : List Step) (s : Step) → StepsMeet script start firsts past
      → StepMeets script start firsts k past s → (h : HostId) (server : ServerId) (name : List ℕ) (id : FilesetId)
      → (Entered (steps_of_host h past) server name id → WasTold firsts past h server name id)
      → Entered (own_after h k s (steps_of_host h past)) server name id → WasTold firsts past h server name id
  told_node (Server k) past s run m h server name id old e = old e
  told_node (Host k) past s run m h server name id old e =
      if_host (λ A. Entered A server name id → WasTold firsts past h server name id) k h (s ∷ steps_of_host h past) (steps_of_host h past)
      (λ same q. elim q [
        | inl now ↦
            told_now past run h s (subst (λ j. StepMeets script start firsts (Host j) past s) same m) server name id now
        | inr before ↦ old before
      ]) old e

  entered_told : (past : List Step) → StepsMeet script start firsts past → (h : HostId) (server : ServerId)
      (name : List ℕ) (id : FilesetId) → Entered (steps_of_host h past) server name id → WasTold firsts past h server name id
  entered_told [] run h server name id e = elim e [ ]
  entered_told (s ∷ past) run h server name id e =
      told_on past s h server name id
      (told_node s.node past s run.0 run.1.0 h server name id (entered_told past run.0 h server name id) e)

  name_is : (server : ServerId) (a b : List ℕ)
      → (let x : ServerId × List ℕ = (server, a) in let y : ServerId × List ℕ = (server, b) in Some x ≡ Some y) → a ≡ b
  name_is server a b e =
      let q : (let x : ServerId × List ℕ = (server, a) in let y : ServerId × List ℕ = (server, b) in x ≡ y) = cc in
      ap (λ (y : ServerId × List ℕ). y.1) q

  -- and so its name leads there
  leads : (past : List Step) → StepsMeet script start firsts past → (h : HostId) (tree_is : Tree)
      → NamesStand firsts past tree_is → (server : ServerId) (name : List ℕ) (id : FilesetId)
      → WasTold firsts past h server name id → LeadsTo tree_is server name id
  leads past run h tree_is stands server name id t =
      let a = stands.told server h t.told_in t.told_under t.done id t.sent t.outcome in
      let one : t.change.call ≡ a.change.call =
      same_call script h (steps_of_host h past) (own_run script start firsts past run h) server t.epoch t.moves a.epoch a.moves
      t.change a.change t.said a.said (t.fileset ∙ sym a.fileset, t.number ∙ sym a.number, t.zero) in
      subst (λ l. LeadsTo tree_is server l id)
      (name_is server a.name name (sym a.asks ∙ (sym (ap fileset_of one) ∙ t.asks))) a.leads

  names_node : (k : Node) (past : List Step) (s : Step) → StepsMeet script start firsts past
      → StepMeets script start firsts k past s → (h : HostId) (tree_is : Tree) → k ≡ Host h
      → NamesStand firsts past tree_is → (server : ServerId) (name : List ℕ) (id : FilesetId)
      → Entered (s ∷ steps_of_host h past) server name id → LeadsTo tree_is server name id
  names_node k past s run m h tree_is e stands server name id (inl now) =
      leads past run h tree_is stands server name id
      (told_now past run h s (subst (λ j. StepMeets script start firsts j past s) e m) server name id now)
  names_node k past s run m h tree_is e stands server name id (inr before) =
      leads past run h tree_is stands server name id (entered_told past run h server name id before)

  all_known_names : (past : List Step) → StepsMeet script start firsts past
      → Always (λ past s. (h : HostId) (tree_is : Tree) → s.node ≡ Host h
      → NamesStand firsts past tree_is → (server : ServerId) (name : List ℕ) (id : FilesetId)
      → Entered (s ∷ steps_of_host h past) server name id → LeadsTo tree_is server name id) past
  all_known_names [] run = tt
  all_known_names (s ∷ past) run =
      (all_known_names past run.0, λ h tree_is. names_node s.node past s run.0 run.1.0 h tree_is)

-- names in a tree with what a server keeps
named_in_tree : (v : ServerId) (K T : Tree) (name : List ℕ) (fileset : Fileset) → SameAt v K (kept_tree T)
    → fileset_named K v name ≡ Ok fileset → LeadsTo T v name fileset.id
named_in_tree v K T name fileset same e =
    let f = then_ok (fileset_named T v name) (λ f. Ok (kept_fileset f)) fileset
    (sym (kept_named T v name) ∙ (sym (same_named K (kept_tree T) v same name) ∙ e)) in
    (f.0, f.1, ap (λ (x : Fileset). x.id) (ok_is (kept_fileset f.0) fileset f.2))

known_is : (a b : FilesetId) → Known a ≡ Known b → a ≡ b
known_is a b e = cc

-- a step
module _ (script : Script) (start : Tree) (firsts : ServerId → ℕ) (past : List Step)
    (run : StepsMeet script start firsts past) (s : Step) (old new : Tree) (stands : NamesStand firsts past old)
    (on : (server : ServerId) (name : List ℕ) (id : FilesetId) → LeadsTo old server name id
    → LeadsTo new server name id) where
  -- the Change that a Done answers, and where its name leads
  abbrev Asked : List Step → ServerId → DoneOf → FilesetId → Type 0
  Asked A v d id =
      (c : ChangeOf) × (m : ℕ) × (j : ℕ) × Said A v m j (Change c) × (c.enter ≡ true) × (c.fileset ≡ d.fileset)
      × (c.number ≡ d.bring.number)
      × ((name : List ℕ) × (fileset_of c.call ≡ Some (v, name)) × LeadsTo new v name id)

  -- what a server told before goes on
  abbrev Now : Node → ServerId → HostId → ℕ → ℕ → Body → Type 0
  Now k v h e n b =
      (d : DoneOf) (id : FilesetId) → b ≡ Done d → d.outcome ≡ Known id → Asked (own_after h k s (steps_of_host h past)) v d id

  before : (k : Node) (v : ServerId) → AllSent (Now k v) (doings_of (firsts v) v past)
  before k v h e n b sent d id is outcome =
      let a = stands.told v h e n d id (subst (SentTo (doings_of (firsts v) v past) h e n) is sent) outcome in (
        a.change,
        a.epoch,
        a.moves,
        said_keeps k s h (steps_of_host h past) v a.epoch a.moves (Change a.change) a.said,
        a.enters,
        a.fileset,
        a.number,
        (a.name, a.asks, on v a.name id a.leads),
      )

  -- what it tells now is what it keeps
  module _ (v : ServerId) (K : Tree) (same : SameAt v K (kept_tree new)) where
    written_reply : (S : List Doing) (h : HostId) (d : DoneOf) (id : FilesetId) → HasWritten S h d
        → d.outcome ≡ Known id → ⊥
    written_reply [] h d id w e = w
    written_reply (a ∷ S) h d id (inl w) e =
        let q : Known id ≡ HasReply w.0.answer.reply = sym e ∙ w.5 in cc
    written_reply (a ∷ S) h d id (inr w) e = written_reply S h d id w e

    settled : (S : List Doing) (h : HostId) (n : ℕ) (d : DoneOf) (id : FilesetId) → Good past v S
        → AnswersSo v K S h n d → d.outcome ≡ Known id → Asked (steps_of_host h past) v d id
    settled S h n d id g so outcome = by so.so
      where
        took : TookNow S h so.w.moves (Change so.change)
        took = subst (λ (y : HostId × Body). TookNow S y.0 so.w.moves y.1)
            (λ i. (so.host i, body_of (so.request i))) (g.taken so.w so.waits)

        its : (e : ℕ) × In (Took h e so.w.moves (Change so.change)) S
        its = took_in S h so.w.moves (Change so.change) took

        said : Said (steps_of_host h past) v its.0 so.w.moves (Change so.change)
        said = g.said h its.0 so.w.moves (Change so.change) its.1

        by : AnsweredSo v K S so.w so.change d → Asked (steps_of_host h past) v d id
        by (TakesToken takes none row can is needs) = absurd (let q : Known id ≡ IsGranted = sym outcome ∙ is in cc)
        by (NamesOther takes none row can is needs) = absurd (let q : Known id ≡ Again = sym outcome ∙ is in cc)
        by (IsEntered fileset place enter of named is none) =
            enters ((all_well script start firsts past run h).asked v its.0 so.w.moves so.change said).asks
          where
            its_id : fileset.id ≡ id
            its_id = known_is fileset.id id (sym is ∙ outcome)

            enters : AsksRightly v so.change → Asked (steps_of_host h past) v d id
            enters (Decides plain change at) = absurd (false≢true (sym plain ∙ enter))
            enters (Moves plain label to call) = absurd (false≢true (sym plain ∙ enter))
            enters (AsksToEnter entering name asks) =
                let pair : ServerId × List ℕ = (v, name) in
                let both : Some place ≡ Some pair = sym of ∙ asks in
                let one : place ≡ pair = cc in (
                  so.change,
                  its.0,
                  so.w.moves,
                  said,
                  enter,
                  sym so.fileset,
                  sym so.number,
                  (
                    name,
                    asks,
                    subst (λ i. LeadsTo new v name i) its_id (named_in_tree v K new name fileset same
                        (subst (λ (y : ServerId × List ℕ). fileset_named K y.0 y.1 ≡ Ok fileset) one named)),
                  ),
                )

    sends_so : (S : List Doing) (x : Message) → Good past v S → AllSent (Now (Server v) v) S
        → MaySend v K s S (Sent x.host x.epoch x.moves x.body) → Now (Server v) v x.host x.epoch x.moves x.body
    sends_so S x g all may d id body outcome =
        by (may.done_for x.host x.epoch x.moves d (ap (λ (b : Body). Sent x.host x.epoch x.moves b) body)).2
      where
        by : DoneFor v K S x.host x.moves d → Asked (steps_of_host x.host past) v d id
        by (OfWritten w tokens last) = absurd (written_reply S x.host d id w outcome)
        by (Answered so) = settled S x.host x.moves d id g so outcome
        by (Repeated sent last) = all x.host _ x.moves (Done d) sent d id refl outcome
        by (TakenBack was last is tokens) = absurd (let q : Known id ≡ Again = sym outcome ∙ is in cc)

  at_node : (k : Node) → StepMeets script start firsts k past s
      → ((v : ServerId) → SameAt v (filesets_kept start v (if is_node k (Server v) then s ∷ steps_of_server v past else steps_of_server v past))
      (kept_tree new))
      → (v : ServerId) → AllSent (Now k v) (acts_after v k s (doings_of (firsts v) v past))
  at_node (Host k) m same v = before (Host k) v
  at_node (Server k) m same v = go (k.0 == v.0) refl (same v)
    where
      go : (b : Bool) → (k.0 == v.0) ≡ b
          → SameAt v (filesets_kept start v (if b then s ∷ steps_of_server v past else steps_of_server v past)) (kept_tree new)
          → AllSent (Now (Server k) v) (if b then after_step s (doings_of (firsts v) v past) else doings_of (firsts v) v past)
      go false e so = before (Server k) v
      go true e so =
          subst (λ (w : ServerId). SameAt w (filesets_kept start w (s ∷ steps_of_server w past)) (kept_tree new)
          → AllSent (Now (Server k) w) (after_step s (doings_of (firsts w) w past))) (server_is k v e)
          (λ here. after_sends script start firsts past run k s m (Now (Server k) k)
          (λ T x i g all may.
          sends_so k (filesets_through s.cause s.applied (filesets_kept start k (steps_of_server k past))) here T x g all may)
          (before (Server k) k)) so

  pub names_after : StepMeets script start firsts s.node past s
      → ((v : ServerId) → SameAt v (filesets_kept start v (steps_of_server v (s ∷ past))) (kept_tree new))
      → NamesStand firsts (s ∷ past) new
  names_after m same = record {
    told = λ v h e n d id sent outcome.
        let (c, j, k, said, enter, fileset, number, (name, asks, leads)) =
        at_node s.node m same v h e n (Done d) sent d id refl outcome in
        record {
          change = c;
          epoch = j;
          moves = k;
          said = said;
          enters = enter;
          fileset = fileset;
          number = number;
          name = name;
          asks = asks;
          leads = leads;
        };
  }

pub names_start : NamesStartSo
names_start firsts tree_is = record {
  told = λ v h e n d id sent outcome. elim sent [
    | inl q ↦ absurd (let p : BeginsEpoch (firsts v) ≡ Sent h e n (Done d) = q in cc)
    | inr q ↦ elim q [ ]
  ];
}

pub names_are_known : NamesAreKnown
names_are_known script journal run =
    all_known_names script run.start (firsts_of journal) (past_of journal) run.steps

module _ (script : Script) (start : Tree) (firsts : ServerId → ℕ) where
  all_go_on : (past : List Step) → StepsMeet script start firsts past
      → Always (λ past s. (old new : Tree) → NamesStand firsts past old
      → ((server : ServerId) (name : List ℕ) (id : FilesetId) → LeadsTo old server name id
      → LeadsTo new server name id)
      → ((v : ServerId) → SameAt v (filesets_kept start v (steps_of_server v (s ∷ past))) (kept_tree new))
      → NamesStand firsts (s ∷ past) new) past
  all_go_on [] run = tt
  all_go_on (s ∷ past) run = (
    all_go_on past run.0,
    λ old new stands on same. names_after script start firsts past run.0 s old new stands on
        run.1.0 same,
  )

pub names_go_on : NamesGoOn
names_go_on script journal run = all_go_on script run.start (firsts_of journal) (past_of journal) run.steps
