-- Each Change that a host says is meant so that its server can answer it.
use Rattle.std.proofs.Common.{Bool, Err, List, None, Ok, Option, Result, Some, [], ap, arith, false, if◌then◌else◌, inl}
use Rattle.std.proofs.Common.{inr, refl, subst, suc, sym, true, zero, ℕ, ◌+◌, ◌<◌, ◌==◌, ◌∙◌, ◌∷◌, ◌≡◌}
use Rattle.std.proofs.lemmas.Bool.{and_parts, eqb-true}
use Rattle.std.specs.Prelude.{filter, is_some, nat_eq, nat_le, slice_get}
use Rattle.base_types.specs.Outcomes.{either}
use Rattle.base_types.specs.declared.ids.Fid.{Fid}
use Rattle.base_types.specs.declared.ids.FilesetId.{FilesetId}
use Rattle.base_types.specs.declared.ids.HostId.{HostId}
use Rattle.base_types.specs.declared.ids.Node.TheVariants.{Host}
use Rattle.base_types.specs.declared.ids.ServerId.{ServerId}
use Rattle.base_types.specs.declared.ids.OpenKind.{OpenKind}
use Rattle.base_types.specs.declared.limits.TheConstants.{LABELS_MAX}
use Rattle.base_types.specs.declared.span.Span.{Span}
use Rattle.base_types.specs.declared.user.User.{User}
use Rattle.token_types.specs.declared.token.Kind.{Kind}
use Rattle.token_types.specs.declared.token.Kind.TheVariants.{Bytes, Lock as LockToken, Opening, Status}
use Rattle.tree_answers.specs.Locks.{has_lock, lock_count}
use Rattle.tree_answers.specs.Opens.{has_open, open_count}
use Rattle.tree_calls.specs.declared.call.Call.{Call}
use Rattle.tree_calls.specs.declared.call.Call.TheVariants.{Lock, OpenFile}
use Rattle.tree_calls.specs.declared.reply.Refusal.{Refusal}
use Rattle.tree_calls.specs.declared.reply.Reply.TheVariants.{Refused}
use Rattle.tree_filesets.specs.Rights.{read_right, write_right}
use Rattle.tree_filesets.specs.Uses.{is_changing, right_to_open}
use Rattle.tree_objects.specs.Spans.{span_between}
use Rattle.script_lines.specs.Sound.{IsSound, is_setup_call, is_setup_line, same_node}
use Rattle.script_lines.specs.declared.script.Deed.{Deed}
use Rattle.script_lines.specs.declared.script.Deed.TheVariants.{Await, Call as MakesCall, Raise, Restart as Restarts}
use Rattle.script_lines.specs.declared.script.Deed.TheVariants.{Stop}
use Rattle.script_lines.specs.declared.script.Line.{Line}
use Rattle.script_lines.specs.declared.script.Script.{Script}
use Rattle.message_types.specs.declared.asking.Change.{Change as ChangeOf}
use Rattle.message_types.specs.declared.message.Body.TheVariants.{Change}
use Rattle.need_host.proofs.Rows.{outcome_judged}
use Rattle.need_host.specs.Calls.{Own, Verdict, call_look, from_root, judged, lock_for, lock_look, open_for}
use Rattle.need_host.specs.Calls.{open_look, refuse}
use Rattle.need_host.specs.Calls.Verdict.{Asks, Locks, Opens, Replies}
use Rattle.need_host.specs.Looks.{Look, View, checked, outcome}
use Rattle.need_host.specs.Questions.{Question, fileset_of, numbered_under}
use Rattle.need_host.specs.Questions.Question.{EnterAt}
use Rattle.need_host.specs.Walks.{root_of, use_look}
use Rattle.run_rules.specs.HostAsks.{IsNewChange}
use Rattle.run_rules.specs.HostMay.{DoesLine, HostMay}
use Rattle.run_rules.specs.Messages.{Said}
use Rattle.run_rules.specs.Past.{Always, In}
use Rattle.run_rules.specs.Runs.{IsRun, firsts_of, past_of}
use Rattle.run_rules.specs.ServerDecides.{IsMeantSo}
use Rattle.run_rules.specs.Steps.{is_node, lines_of, servers_of, steps_of_host}
use Rattle.run_rules.specs.Tokens.{IsOpen, end_call}
use Rattle.run_rules.specs.Wants.{is_use, locks_nothing}
use Rattle.run_rules.specs.declared.journal.Journal.{Journal}
use Rattle.run_rules.specs.declared.step.Asked.{Asked}
use Rattle.run_rules.specs.declared.step.Labelled.{Labelled}
use Rattle.run_rules.specs.declared.step.Step.{Step}
use Rattle.run_examples.proofs.Tests.{at_all, from_filter}
use Rattle.run_history.proofs.Asking.{changes_ask_rightly}
use Rattle.run_history.specs.Asked.AsksRightly.{Decides, Enters, Moves}
use Rattle.run_goes_on.proofs.Positions.{own_run}
use Rattle.run_goes_on.specs.Ended.{LocksBytes}

at_place : (n : ℕ) (xs : List Line) (x : Line) → slice_get xs n ≡ Some x → In x xs
at_place n [] x e = absurd (let z : None ≡ Some x = e in cc)
at_place zero (y ∷ ys) x e = inl (let z : Some y ≡ Some x = e in same_line y x z)
  where
    same_line : (y x : Line) → Some y ≡ Some x → x ≡ y
    same_line y x e = cc
at_place (suc n) (y ∷ ys) x e = inr (at_place n ys x e)

-- # A lock or an open asks for its fileset alone, where that isn't known yet

judged_asks : {A : Type 0} (view : View) (look : Look (Result A Refusal)) (judge : A → Verdict) (q : Question)
    → ((a : A) → judge a ≡ Asks q → ⊥) → outcome view (judged look judge) ≡ Asks q → ⊥
judged_asks view look judge q never e = go (outcome view look) (sym (outcome_judged view look judge) ∙ e)
  where
    go : (found : Result _ Refusal) → either found judge (λ refusal. Replies (Refused refusal)) ≡ Asks q → ⊥
    go (Ok a) k = never a k
    go (Err refusal) k = cc

asks_enter : (view : View) (server : ServerId) (found : Option FilesetId) (look : Fid → Look Verdict) (q : Question)
    → ((id : FilesetId) → outcome view (look (root_of id)) ≡ Asks q → ⊥)
    → outcome view (from_root server found look) ≡ Asks q → q ≡ EnterAt server
asks_enter view server None look q never e = let z : Asks (EnterAt server) ≡ Asks q = e in cc
asks_enter view server (Some id) look q never e = absurd (never id e)

refused_or : (view : View) (refused : Bool) (refusal : Refusal) (look : Look Verdict) (q : Question)
    → outcome view (if refused then refuse refusal else look) ≡ Asks q → outcome view look ≡ Asks q
refused_or view true refusal look q e = absurd (let z : Replies (Refused refusal) ≡ Asks q = e in cc)
refused_or view false refusal look q e = e

locks_asks : (fid : Fid) (writing : Bool) (span : Span) (q : Question) → Locks fid writing span ≡ Asks q → ⊥
locks_asks fid writing span q e = cc

opens_asks : (fid : Fid) (kind : OpenKind) (q : Question) → Opens fid kind ≡ Asks q → ⊥
opens_asks fid kind q e = cc

lock_asks : (view : View) (own : Own) (host : HostId) (user : User) (root : Fid) (path : List (List ℕ))
    (writing : Bool) (from len : ℕ) (q : Question)
    → outcome view (lock_look own host user root path writing from len) ≡ Asks q → ⊥
unfolding lock_look
lock_asks view own host user root path writing from len q e =
    judged_asks view
    (checked (use_look user root path writing (if writing then write_right else read_right))
    (lock_for own host writing from len))
    (λ fid. Locks fid writing (span_between from (from + len))) q
    (λ fid z. locks_asks fid writing (span_between from (from + len)) q z) e

open_asks : (view : View) (user : User) (root : Fid) (path : List (List ℕ)) (kind : OpenKind) (q : Question)
    → outcome view (open_look user root path kind) ≡ Asks q → ⊥
unfolding open_look
open_asks view user root path kind q e =
    judged_asks view (checked (use_look user root path (is_changing kind) (right_to_open kind)) (open_for kind))
    (λ fid. Opens fid kind) q (λ fid z. opens_asks fid kind q z) e

use_asks : (view : View) (own : Own) (host : HostId) (user : User) (call : Call) (q : Question) → is_use call ≡ true
    → outcome view (call_look own host user call) ≡ Asks q → (server : ServerId) × (q ≡ EnterAt server)
unfolding call_look
use_asks view own host user (Lock label place writing from len) q uses e = (
  place.server,
  asks_enter view place.server (own.seen place.server place.fileset)
      (λ root. lock_look own host user root place.path writing from len) q
      (λ id k. lock_asks view own host user (root_of id) place.path writing from len q k)
      (refused_or view (nat_le LABELS_MAX (lock_count own.locks host)) _ _ q
      (refused_or view (has_lock own.locks host label) _ _ q e)),
)
use_asks view own host user (OpenFile label place kind) q uses e = (
  place.server,
  asks_enter view place.server (own.seen place.server place.fileset)
      (λ root. open_look user root place.path kind) q
      (λ id k. open_asks view user (root_of id) place.path kind q k)
      (refused_or view (nat_le LABELS_MAX (open_count own.opens host)) _ _ q
      (refused_or view (has_open own.opens host label) _ _ q e)),
)
use_asks view own host user _ q uses e = absurd (let z : false ≡ true = uses in cc)

module _ (script : Script) (host : HostId) where
  -- so it is numbered under its file's fileset
  use_fileset : (A : List Step) (s : Step) (may : HostMay script host A s) (v : ServerId) (n : ℕ) (c : ChangeOf)
      → IsNewChange script.roster host A s may.stance v n c → is_use c.call ≡ true → c.fid.fileset ≡ c.fileset
  use_fileset A s may v n c new uses = elim new.asks [
    | inl k ↦ (
        let it = use_asks _ may.stance.own host may.stance.user c.call new.question uses k.0 in
        ap (λ (f : Fid). f.fileset) k.2 ∙ sym (new.numbered ∙ ap numbered_under it.1)
        )
    | inr k ↦ ap (λ (f : Fid). f.fileset) (sym k.3) ∙ sym (new.numbered ∙ ap numbered_under k.4)
  ]

  -- # A lock or an open that is asked for is a line's

  end_no_use : (kind : Kind) (label : List ℕ) → is_use (end_call kind label) ≡ true → ⊥
  end_no_use (Status update) label e = cc
  end_no_use (Bytes update span) label e = cc
  end_no_use (LockToken writing span) label e = cc
  end_no_use (Opening kind) label e = cc

  abbrev IsOfLine : Call → Type 0
  IsOfLine call = (line : Line) × In line (lines_of script (Host host)) × (line.deed ≡ MakesCall call)

  same_asked : (x y : Asked) → Some x ≡ Some y → x ≡ y
  same_asked x y e = cc

  does : (A : List Step) (s : Step) → HostMay script host A s → (call : Asked) → s.asked ≡ Some call → (line : Line)
      → In line (lines_of script (Host host)) → (d : Deed) → line.deed ≡ d
      → DoesLine (servers_of script.roster) A s d → IsOfLine call.call
  does A s may call asked line i (MakesCall other) is (inl k) =
      let one = same_asked call _ (sym asked ∙ k) in
      (line, i, is ∙ ap MakesCall (sym (ap (λ (x : Asked). x.call) one)))
  does A s may call asked line i (MakesCall other) is (inr k) = absurd (may.answers.asked k.0 call k.1 asked)
  does A s may call asked line i (Raise flag) is k =
      absurd (let z : None ≡ Some call = sym (ap (λ (x : Step). x.asked) k) ∙ asked in cc)
  does A s may call asked line i (Await flag) is k =
      absurd (let z : None ≡ Some call = sym (ap (λ (x : Step). x.asked) k) ∙ asked in cc)
  does A s may call asked line i Stop is k = absurd (let z : None ≡ Some call = sym k.2 ∙ asked in cc)
  does A s may call asked line i Restarts is k = elim k [ ]

  open_line : (A : List Step) → Always (HostMay script host) A → (call : Asked) → IsOpen A call
      → is_use call.call ≡ true → IsOfLine call.call
  open_line [] run call out uses = elim out [ ]
  open_line (s ∷ A) run call (inr older) uses = open_line A run.0 call older.0 uses
  open_line (s ∷ A) run call (inl asked) uses = elim (run.1.lines.begins call.k call.call (inl asked)) [
    | inl k ↦ (
        let next = run.1.lines.next k.0 k.1 in
        does A s run.1 call asked next.0 (at_place _ (lines_of script (Host host)) next.0 next.1.0) next.0.deed refl
        next.2
        )
    | inr end ↦ (
        let its = (run.1.ends.implied call.k call.call end (inl asked)).1 in
        let u : Labelled = its.0 in
        absurd (end_no_use u.token.kind u.label (subst (λ (x : Call). is_use x ≡ true) its.2 uses))
        )
  ]

  module _ (sound : IsSound script) (locks : LocksBytes script) where
    some_bytes : (call : Call) → IsOfLine call → is_use call ≡ true → locks_nothing call ≡ false
    some_bytes (OpenFile label place kind) of uses = refl
    some_bytes (Lock label place writing from len) (line, i, is) uses = go (host.0 == 0) i
      where
        none_zero : (k : ℕ) → 0 < k → nat_eq k 0 ≡ false
        none_zero k lt = by (nat_eq k 0) refl
          where
            by : (b : Bool) → nat_eq k 0 ≡ b → nat_eq k 0 ≡ false
            by true e = (let z = eqb-true k 0 e in absurd (omega (arith, lt, z)))
            by false e = e

        setup_not : (d : Deed) → d ≡ MakesCall (Lock label place writing from len)
            → is_setup_call script.servers d ≡ true → ⊥
        setup_not d e k =
            let z = subst (λ (x : Deed). is_setup_call script.servers x ≡ true) e k in
            let w = (and_parts _ false z).1 in
            cc

        go : (b : Bool) → In line (if b then script.setup else filter (λ l. is_node (Host host) l.node) script.lines)
            → nat_eq len 0 ≡ false
        go true j =
            let k = at_all (is_setup_line script.servers) script.setup line sound.setup j in
            absurd (setup_not line.deed is (and_parts (same_node line.node (Host (record { 0 = 0 })))
            (is_setup_call script.servers line.deed) k).1)
        go false j =
            none_zero len (locks line label place writing from len
            (from_filter (λ (l : Line). is_node (Host host) l.node) script.lines line j).0 is)
    some_bytes _ of uses = refl

    -- # So each Change is meant so

    new_meant : (A : List Step) (s : Step) → Always (HostMay script host) (s ∷ A) → (v : ServerId) (n : ℕ)
        (c : ChangeOf) (may : HostMay script host A s) → IsNewChange script.roster host A s may.stance v n c
        → (is_use c.call ≡ true → c.fid.fileset ≡ c.fileset) × (locks_nothing c.call ≡ false)
    new_meant A s run v n c may new = (
      use_fileset A s may v n c new,
      by (is_use c.call) refl,
    )
      where
        no_lock : (x : Call) → is_use x ≡ false → locks_nothing x ≡ false
        no_lock (Lock label place writing from len) z = absurd (let y : true ≡ false = z in cc)
        no_lock _ z = refl

        by : (b : Bool) → is_use c.call ≡ b → locks_nothing c.call ≡ false
        by true k = some_bytes c.call (open_line (s ∷ A) run (record { k = c.k; call = c.call }) new.is_open k) k
        by false k = no_lock c.call k

    said_meant : (A : List Step) → Always (HostMay script host) A → (v : ServerId) (e n : ℕ) (c : ChangeOf)
        → Said A v e n (Change c)
        → (is_use c.call ≡ true → c.fid.fileset ≡ c.fileset) × (locks_nothing c.call ≡ false)
    said_meant [] run v e n c said = elim said [ ]
    said_meant (s ∷ A) run v e n c (inr older) = said_meant A run.0 v e n c older
    said_meant (s ∷ A) run v e n c (inl sends) = elim (run.1.asks.changes v e n c sends) [
      | inl again ↦ (let has = again.0 in said_meant A run.0 has.0 has.1 has.2 c has.3)
      | inr new ↦ new_meant A s run v n c run.1 new
    ]

pub changes_are_meant_so : (script : Script) (journal : Journal) → IsRun script journal → IsSound script
    → LocksBytes script → (host : HostId) (v : ServerId) (e n : ℕ) (c : ChangeOf)
    → Said (steps_of_host host (past_of journal)) v e n (Change c) → IsMeantSo c
changes_are_meant_so script journal run sound locks host v e n c said =
    let rest = said_meant script host sound locks (steps_of_host host (past_of journal))
    (own_run script run.start (firsts_of journal) (past_of journal) run.steps host) v e n c said in
    (names, rest.0, rest.1)
  where
    names : c.enter ≡ true → is_some (fileset_of c.call) ≡ true
    names enter = elim (changes_ask_rightly script journal run host v e n c said) [
      | Enters is name of ↦ ap is_some of
      | Decides plain change at ↦ absurd (let z : false ≡ true = sym plain ∙ enter in cc)
      | Moves plain name to is ↦ absurd (let z : false ≡ true = sym plain ∙ enter in cc)
    ]
