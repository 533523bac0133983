-- In every run each Change that a host sends asks rightly, and what a host has entered is at home where it asked.
use Rattle.std.proofs.Common.{List, None, Some, ap, arith, false, inl, inr, refl, subst, sym, true, ℕ, ◌/◌, ◌∙◌, ◌∷◌}
use Rattle.std.proofs.Common.{◌≡◌, ◌≤◌, ◌⊎◌}
use Rattle.std.proofs.lemmas.Bool.{false≢true}
use Rattle.std.specs.Prelude.{[]}
use Rattle.base_types.specs.declared.ids.FilesetId.{FilesetId}
use Rattle.base_types.specs.declared.ids.HostId.{HostId}
use Rattle.base_types.specs.declared.ids.Node.{Node}
use Rattle.base_types.specs.declared.ids.Node.TheVariants.{Host, Server}
use Rattle.base_types.specs.declared.ids.ServerId.{ServerId}
use Rattle.base_types.specs.declared.user.User.{User}
use Rattle.tree_calls.specs.declared.call.Call.{Call}
use Rattle.tree_calls.specs.declared.call.Call.TheVariants.{CloneFileset, Create, Lock as LockCall, MakeDir}
use Rattle.tree_calls.specs.declared.call.Call.TheVariants.{MoveFileset, NewFileset, OpenFile, Remove, Rename, SetAcl}
use Rattle.tree_calls.specs.declared.call.Call.TheVariants.{Truncate}
use Rattle.need_host.proofs.Asking.{questions_are_about_filesets}
use Rattle.need_host.specs.Calls.{Own, call_look}
use Rattle.need_host.specs.Calls.Verdict.{Asks}
use Rattle.need_host.specs.Laws.{IsAbout}
use Rattle.need_host.specs.Looks.{IsFirstLack, View, outcome}
use Rattle.need_host.specs.Questions.{Question, fileset_of, is_change, numbered_under}
use Rattle.need_host.specs.Questions.Question.{ChangeAt, ChangeIn, EnterAt}
use Rattle.tree_answers.specs.declared.tree.Tree.{Tree}
use Rattle.message_types.specs.Soundness.{IsBody, IsChange, IsDecided, IsSound}
use Rattle.message_types.specs.declared.asking.Change.{Change as ChangeOf}
use Rattle.message_types.specs.declared.message.Body.{Body}
use Rattle.message_types.specs.declared.message.Body.TheVariants.{Change, Done}
use Rattle.message_types.specs.declared.message.Message.{Message}
use Rattle.message_types.specs.declared.telling.Done.{Done as DoneOf}
use Rattle.message_types.specs.declared.telling.DoneIs.TheVariants.{Known}
use Rattle.script_lines.specs.declared.script.Script.{Script}
use Rattle.need_laws.specs.Known.{IsAt}
use Rattle.token_types.specs.declared.token.Need.{Need}
use Rattle.token_types.specs.declared.token.Token.{Token}
use Rattle.run_rules.specs.Doings.{SentTo, doings_of}
use Rattle.run_rules.specs.HostAsks.{HasChanged, IsNewChange}
use Rattle.run_rules.specs.HostMay.{HostMay}
use Rattle.run_rules.specs.Messages.{Said, Sends, Stay, home}
use Rattle.run_rules.specs.Past.{In}
use Rattle.run_rules.specs.Runs.{StepMeets, StepsMeet, firsts_of, past_of}
use Rattle.run_rules.specs.Steps.{steps_of_host}
use Rattle.run_rules.specs.Views.{Entered, Enters, is_entering, needs_in, sees as host_sees, stay_asked, verdict_in}
use Rattle.run_tokens.proofs.Words.{if_host, own_after}
use Rattle.run_rules.specs.declared.step.Cause.TheVariants.{Message as Came}
use Rattle.run_rules.specs.declared.step.Step.{Step}
use Rattle.run_history.proofs.Sending.{all_known}
use Rattle.run_history.proofs.Walks.{use_needs}
use Rattle.run_history.specs.Asked.{AsksRightly, ChangesAskRightly}
use Rattle.run_history.specs.Asked.AsksRightly.{Decides, Enters as AsksToEnter, Moves}

-- what is known of a Change that a host sent to a server: under fileset 0, or where its fileset was made
pub record WellAsked (v : ServerId) (c : ChangeOf) : Type 0 where
  pub asks : AsksRightly v c
  pub under : c.enter ≡ true → c.fileset.0 ≡ 0
  pub at : (c.fileset.0 ≡ 0) ⊎ (home c.fileset ≡ v)

-- so it is with all that a host sent; and what it entered was made at that server
pub record IsWell (past : List Step) : Type 0 where
  pub asked : (v : ServerId) (e n : ℕ) (c : ChangeOf) → Said past v e n (Change c) → WellAsked v c
  pub entered : (server : ServerId) (name : List ℕ) (id : FilesetId) → Entered past server name id → home id ≡ server

some_pair : (x y : ServerId × List ℕ) → Some x ≡ Some y → x ≡ y
some_pair x y e = cc

-- a call that servers decide, by where its fileset is
module _ (v : ServerId) (name : List ℕ) (c : ChangeOf) (enter : c.enter ≡ false) where
  abbrev pair : ServerId × List ℕ
  pair = (v, name)

  here : (x : ServerId × List ℕ) → Some x ≡ Some pair → x.0 ≡ v
  here x e = ap (λ (y : ServerId × List ℕ). y.0) (some_pair x pair e)

  decided : (call : Call) → c.call ≡ call → is_change call ≡ true → IsAt v call → AsksRightly v c
  decided call is k at = Decides enter (ap is_change is ∙ k) (subst (IsAt v) (sym is) at)

  by_call : (call : Call) → c.call ≡ call → is_change call ≡ true → fileset_of call ≡ Some pair → AsksRightly v c
  by_call (Create place) is k e = decided (Create place) is k (here (place.server, place.fileset) e)
  by_call (MakeDir place) is k e = decided (MakeDir place) is k (here (place.server, place.fileset) e)
  by_call (Remove place) is k e = decided (Remove place) is k (here (place.server, place.fileset) e)
  by_call (Rename from to) is k e = decided (Rename from to) is k (here (from.server, from.fileset) e)
  by_call (Truncate place len) is k e = decided (Truncate place len) is k (here (place.server, place.fileset) e)
  by_call (SetAcl place which list) is k e =
      decided (SetAcl place which list) is k (here (place.server, place.fileset) e)
  by_call (LockCall label place writing from len) is k e =
      decided (LockCall label place writing from len) is k (here (place.server, place.fileset) e)
  by_call (OpenFile label place kind) is k e =
      decided (OpenFile label place kind) is k (here (place.server, place.fileset) e)
  by_call (MoveFileset server label to) is k e =
      Moves enter label to (is ∙ ap (λ (w : ServerId). MoveFileset w label to) (here (server, label) e))
  by_call (NewFileset server label objects owner) is k e = absurd (let q : None ≡ Some pair = e in cc)
  by_call (CloneFileset server source new) is k e = absurd (let q : None ≡ Some pair = e in cc)
  by_call _ is k e = absurd (false≢true k)

  at_call : is_change c.call ≡ true → fileset_of c.call ≡ Some pair → AsksRightly v c
  at_call change of = by_call c.call refl change of

-- the first lack is among the needs
lack_in : (held : List Token) (needs : List Need) (need : Need) → IsFirstLack held needs need → In need needs
lack_in held [] need l = elim l [ ]
lack_in held (first ∷ needs) need (inl l) = inl (sym l.1)
lack_in held (first ∷ needs) need (inr l) = inr (lack_in held needs need l.1)

no_pair : (x : ServerId × List ℕ) → Some x ≡ None → ⊥
no_pair x e = cc

-- a call by which a server has a fileset more
founds : (view : View) (own_is : Own) (host : HostId) (user : User) (call : Call) (server : ServerId)
    → outcome view (call_look own_is host user call) ≡ Asks (ChangeAt server) → fileset_of call ≡ None
    → is_change call ≡ true → IsAt server call
unfolding call_look
founds view o host user (NewFileset at name objects owner) server e none k =
    let q : Asks (ChangeAt at) ≡ Asks (ChangeAt server) = e in cc
founds view o host user (CloneFileset at source new) server e none k =
    let q : Asks (ChangeAt at) ≡ Asks (ChangeAt server) = e in cc
founds view o host user (Create place) server e none k = absurd (no_pair (place.server, place.fileset) none)
founds view o host user (MakeDir place) server e none k = absurd (no_pair (place.server, place.fileset) none)
founds view o host user (Remove place) server e none k = absurd (no_pair (place.server, place.fileset) none)
founds view o host user (Rename from to) server e none k = absurd (no_pair (from.server, from.fileset) none)
founds view o host user (Truncate place len) server e none k = absurd (no_pair (place.server, place.fileset) none)
founds view o host user (SetAcl place which list) server e none k =
    absurd (no_pair (place.server, place.fileset) none)
founds view o host user (LockCall label place writing from len) server e none k =
    absurd (no_pair (place.server, place.fileset) none)
founds view o host user (OpenFile label place kind) server e none k =
    absurd (no_pair (place.server, place.fileset) none)
founds view o host user (MoveFileset at name to) server e none k = absurd (no_pair (at, name) none)
founds view o host user _ server e none k = absurd (false≢true k)

same_question : (a b : FilesetId) → ChangeIn a ≡ ChangeIn b → a ≡ b
same_question a b e = cc

-- a new Change asks rightly
module _ (script : Script) (h : HostId) (A : List Step) (s : Step) (m : HostMay script h A s)
    (entered : (server : ServerId) (name : List ℕ) (id : FilesetId) → Entered (s ∷ A) server name id
    → home id ≡ server) (v : ServerId) (n : ℕ) (c : ChangeOf)
    (new : IsNewChange script.roster h A s m.stance v n c) (w : ServerId)
    (sound : c.enter ≡ false → IsDecided w c.call) where
  goes_to : (q : Question) → new.question ≡ q → (stay_asked (s ∷ A) q).server ≡ v
  goes_to q e = ap (λ (p : Stay). p.server) (sym (ap (stay_asked (s ∷ A)) e) ∙ new.goes)

  enter_is : (q : Question) → new.question ≡ q → c.enter ≡ is_entering q
  enter_is q e = new.enters ∙ ap is_entering e

  under_is : (q : Question) → new.question ≡ q → c.fileset ≡ numbered_under q
  under_is q e = new.numbered ∙ ap numbered_under e

  about : (q : Question) → new.question ≡ q → verdict_in m.stance c.call ≡ Asks new.question
      → IsAbout m.stance.own c.call q
  about q e k =
      questions_are_about_filesets m.stance.own h m.stance.user c.call (host_sees A s) q (k ∙ ap Asks e)

  in_fileset : (id : FilesetId) → new.question ≡ ChangeIn id → (server : ServerId) (name : List ℕ)
      → fileset_of c.call ≡ Some (server, name) → is_change c.call ≡ true
      → m.stance.own.seen server name ≡ Some id → WellAsked v c
  in_fileset id e server name of change seen = record {
    asks = at_call v name c (enter_is (ChangeIn id) e) change
        (subst (λ u. fileset_of c.call ≡ Some (u, name)) same of);
    under = λ t. absurd (false≢true (sym (enter_is (ChangeIn id) e) ∙ t));
    at = inr (ap home (under_is (ChangeIn id) e) ∙ goes_to (ChangeIn id) e);
  }
    where
      same : server ≡ v
      same = sym (entered server name id ((m.stance.knows.seen server name id).0 seen)) ∙ goes_to (ChangeIn id) e

  pub new_asked : WellAsked v c
  new_asked = by new.question refl
    where
      by : (q : Question) → new.question ≡ q → WellAsked v c
      by (EnterAt server) e = elim new.asks [
        | inl k ↦ (
            let it = about (EnterAt server) e k.0 in
            record {
              asks = AsksToEnter (enter_is (EnterAt server) e) it.0
                  (subst (λ u. fileset_of c.call ≡ Some (u, it.0)) (goes_to (EnterAt server) e) it.1);
              under = λ _. ap (λ (f : FilesetId). f.0) (under_is (EnterAt server) e);
              at = inl (ap (λ (f : FilesetId). f.0) (under_is (EnterAt server) e));
            }
            )
        | inr k ↦ absurd (let q : EnterAt server ≡ ChangeIn k.0.fid.fileset = sym e ∙ k.4 in cc)
      ]
      by (ChangeIn id) e = elim new.asks [
        | inl k ↦ (let it = about (ChangeIn id) e k.0 in in_fileset id e it.0 it.1 it.2 it.4 it.3)
        | inr k ↦ (
            let found = use_needs (host_sees A s) m.stance.own h m.stance.user w c.call k.0
            (sound (enter_is (ChangeIn id) e))
            (lack_in m.stance.kept (needs_in m.stance c.call) k.0 k.1) k.2 in
            let one : found.id ≡ id =
            sym found.fileset ∙ sym (same_question id k.0.fid.fileset (sym e ∙ k.4)) in
            in_fileset id e found.server found.name found.of found.change
            (subst (λ i. m.stance.own.seen found.server found.name ≡ Some i) one found.seen)
            )
      ]
      by (ChangeAt server) e = elim new.asks [
        | inl k ↦ (
            let it = about (ChangeAt server) e k.0 in
            record {
              asks = Decides (enter_is (ChangeAt server) e) it.1
                  (subst (λ u. IsAt u c.call) (goes_to (ChangeAt server) e)
                  (founds (host_sees A s) m.stance.own h m.stance.user c.call server (k.0 ∙ ap Asks e) it.0 it.1));
              under = λ t. absurd (false≢true (sym (enter_is (ChangeAt server) e) ∙ t));
              at = inl (ap (λ (f : FilesetId). f.0) (under_is (ChangeAt server) e));
            }
            )
        | inr k ↦ absurd (let q : ChangeAt server ≡ ChangeIn k.0.fid.fileset = sym e ∙ k.4 in cc)
      ]

zero_home : (fileset : FilesetId) → fileset.0 ≡ 0 → (home fileset).0 ≡ 0
unfolding home
zero_home fileset e = ap (λ (n : ℕ). n / 65536) e

-- a step of a host
module _ (script : Script) (start : Tree) (firsts : ServerId → ℕ) (past : List Step)
    (run : StepsMeet script start firsts past) (h : HostId) (s : Step)
    (m : StepMeets script start firsts (Host h) past s) (old : IsWell (steps_of_host h past)) where
  abbrev A : List Step
  A = steps_of_host h past

  -- what came from a server that told a fileset's number
  told : (x : Message) → s.cause ≡ Came x → (d : DoneOf) (id : FilesetId) → x.body ≡ Done d → d.outcome ≡ Known id
      → (1 ≤ x.server.0) × (home id ≡ x.server)
  told x cause d id body outcome =
      all_known script start firsts past run x.server h x.epoch x.moves x.body (m.1 x cause).2 d id body outcome

  enters_home : (server : ServerId) (name : List ℕ) (id : FilesetId) → Enters A s server name id → home id ≡ server
  enters_home server name id (c, d, e, n, said, enter, of, counts, number, fileset, outcome) = elim counts.0 [
    | inl (zero, (x, cause, at, epoch, its, body)) ↦ (told x cause d id body outcome).1 ∙ at
    | inr (x, cause, at, epoch, its, body) ↦ (
        let first : 1 ≤ x.server.0 = (told x cause d id body outcome).0 in
        let none : x.server.0 ≡ 0 =
        ap (λ (w : ServerId). w.0) at
        ∙ zero_home d.fileset (ap (λ (f : FilesetId). f.0) fileset ∙ (old.asked server e n c said).under enter) in
        absurd (omega (arith, first, none))
        )
  ]

  entered_home : (server : ServerId) (name : List ℕ) (id : FilesetId) → Entered (s ∷ A) server name id
      → home id ≡ server
  entered_home server name id (inl e) = enters_home server name id e
  entered_home server name id (inr e) = old.entered server name id e

  abbrev AllSound : Type 0
  AllSound = (x : Message) → In x s.sent → IsSound script.roster x

  sends_asked : AllSound → (v : ServerId) (e n : ℕ) (c : ChangeOf) → Sends s v e n (Change c) → WellAsked v c
  sends_asked sound v e n c sends = elim (m.0.asks.changes v e n c sends) [
    | inl k ↦ again k.0
    | inr new ↦ new_asked script h A s m.0 entered_home v n c new sends.0.server decided
  ]
    where
      its : IsChange script.roster sends.0 c
      its =
          subst (λ (b : Body). IsBody script.roster sends.0 b) sends.5 (sound sends.0 sends.1).body

      decided : c.enter ≡ false → IsDecided sends.0.server c.call
      decided plain = elim its.decided [
        | inl enters ↦ absurd (false≢true (sym plain ∙ enters))
        | inr d ↦ d
      ]

      again : HasChanged A v c → WellAsked v c
      again (w, d, k, said, zero) =
          let it = old.asked w d k c said in
          subst (λ u. WellAsked u c) (same it) it
        where
          same : WellAsked w c → w ≡ v
          same it = elim it.at [
            | inl none ↦ zero none
            | inr home_w ↦ elim (m.0.tokens.changes c v e n sends).0 [
              | inl none ↦ zero none.0
              | inr home_v ↦ sym home_w ∙ ap (λ (p : Stay). p.server) home_v
            ]
          ]

  -- by which message it was told
  pub told_by : (server : ServerId) (name : List ℕ) (id : FilesetId) → (entered : Enters A s server name id)
      → (e : ℕ) × (n : ℕ) × SentTo (doings_of (firsts server) server past) h e n (Done entered.1)
  told_by server name id (c, d, e, n, said, enter, of, counts, number, fileset, outcome) = elim counts.0 [
    | inl (zero, (x, cause, at, epoch, its, body)) ↦ (
      x.epoch,
      x.moves,
      subst (λ (y : ServerId × Body). SentTo (doings_of (firsts y.0) y.0 past) h x.epoch x.moves y.1) (λ i. (at i, body i))
          (m.1 x cause).2,
    )
    | inr (x, cause, at, epoch, its, body) ↦ (
        let first : 1 ≤ x.server.0 = (told x cause d id body outcome).0 in
        let none : x.server.0 ≡ 0 =
        ap (λ (w : ServerId). w.0) at
        ∙ zero_home d.fileset (ap (λ (f : FilesetId). f.0) fileset ∙ (old.asked server e n c said).under enter) in
        absurd (omega (arith, first, none))
        )
  ]

  pub step_well : AllSound → IsWell (s ∷ A)
  step_well sound = record {
    asked = λ v e n c said. elim said [
      | inl sends ↦ sends_asked sound v e n c sends
      | inr before ↦ old.asked v e n c before
    ];
    entered = entered_home;
  }

none_well : IsWell []
none_well = record {
  asked = λ v e n c said. elim said [ ];
  entered = λ server name id e. elim e [ ];
}

module _ (script : Script) (start : Tree) (firsts : ServerId → ℕ) where
  at_node : (k : Node) (past : List Step) (s : Step) → StepsMeet script start firsts past
      → StepMeets script start firsts k past s → ((x : Message) → In x s.sent → IsSound script.roster x)
      → ((h : HostId) → IsWell (steps_of_host h past)) → (h : HostId) → IsWell (own_after h k s (steps_of_host h past))
  at_node (Server k) past s run m sound old h = old h
  at_node (Host k) past s run m sound old h =
      if_host IsWell k h (s ∷ steps_of_host h past) (steps_of_host h past)
      (λ e. subst (λ j. IsWell (s ∷ steps_of_host j past)) e (step_well script start firsts past run k s m (old k) sound)) (old h)

  pub all_well : (past : List Step) → StepsMeet script start firsts past → (h : HostId) → IsWell (steps_of_host h past)
  all_well [] run h = none_well
  all_well (s ∷ past) run h =
      at_node s.node past s run.0 run.1.0 (λ x i. (run.1.3 x i).1) (all_well past run.0) h

pub changes_ask_rightly : ChangesAskRightly
changes_ask_rightly script journal run h v e n c said =
    ((all_well script run.start (firsts_of journal) (past_of journal) run.steps h).asked v e n c said).asks
