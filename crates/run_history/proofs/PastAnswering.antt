-- What a host's step leaves of the tree.
use Rattle.std.proofs.Common.{Bool, List, None, Option, Some, ap, arith, false, inl, length, refl, subst, suc, sym}
use Rattle.std.proofs.Common.{true, ℕ, ◌∙◌, ◌∷◌, ◌≡◌, ◌≤◌}
use Rattle.std.specs.Prelude.{[], if◌then◌else◌, map}
use Rattle.base_types.specs.declared.ids.Fid.{Fid}
use Rattle.base_types.specs.declared.ids.FilesetId.{FilesetId}
use Rattle.base_types.specs.declared.ids.HostId.{HostId}
use Rattle.base_types.specs.declared.ids.Node.TheVariants.{Host}
use Rattle.base_types.specs.declared.ids.ServerId.{ServerId}
use Rattle.base_types.specs.declared.user.User.{User}
use Rattle.tree_calls.specs.Limits.{keeps_limit}
use Rattle.tree_calls.specs.declared.call.Call.{Call}
use Rattle.tree_calls.specs.declared.call.Call.TheVariants.{CloneFileset, CloseFile, Create, GetAcl, List as ListNames}
use Rattle.tree_calls.specs.declared.call.Call.TheVariants.{Lock as LockCall, MakeDir, MoveFileset, NewFileset}
use Rattle.tree_calls.specs.declared.call.Call.TheVariants.{OpenFile, Read, Remove, Rename, SetAcl, Stat, Sync}
use Rattle.tree_calls.specs.declared.call.Call.TheVariants.{Truncate, Unlock, Write}
use Rattle.tree_calls.specs.declared.reply.Reply.{Reply}
use Rattle.need_host.proofs.Leading.{names_lead_on}
use Rattle.need_host.specs.Calls.{Own, call_look, change_look, from_root, reply_now}
use Rattle.need_host.specs.Looks.{View, outcome}
use Rattle.tree_answers.proofs.Kept.{formed_answer}
use Rattle.tree_answers.specs.Answers.{answer_to}
use Rattle.tree_answers.specs.Histories.{IsHistory, IsLegal, after_entry, after_history}
use Rattle.tree_answers.specs.declared.tree.Tree.{Tree}
use Rattle.need_laws.proofs.Calls.{calls_keep_all}
use Rattle.need_laws.specs.Keeps.{KeepsAll, is_answered_alone}
use Rattle.script_lines.specs.declared.script.Script.{Script}
use Rattle.tree_laws.specs.Parts.{Cell, Part, Seen, cell_at}
use Rattle.tree_laws.specs.Parts.Part.{Size}
use Rattle.run_rules.specs.Kept.{filesets_kept}
use Rattle.run_rules.specs.Past.{In}
use Rattle.run_rules.specs.Runs.{StepMeets, call_entry}
use Rattle.run_rules.specs.Steps.{steps_of_host, steps_of_server}
use Rattle.run_rules.specs.Views.{sees, writes_to}
use Rattle.run_history.proofs.Keeping.{still_home, still_keeps}
use Rattle.run_history.proofs.Stands.{StandsNext}
use Rattle.run_history.specs.PastStanding.{LeadsOn, Stands}
use Rattle.run_parts.specs.Cells.{written}
use Rattle.run_parts.specs.Contents.{Contents}
use Rattle.run_parts.specs.Legal.{tree, tree_after}
use Rattle.run_contents.specs.Steps.{IsOfJournal, written_at, written_in}
use Rattle.run_rules.specs.declared.applied.Answer.{Answer}
use Rattle.run_rules.specs.declared.step.Step.{Step}

-- a call that a host answers at once is none that a server decides
asks_none : (view : View) (server : ServerId) (o : Option FilesetId)
    → reply_now (outcome view (from_root server o change_look)) ≡ None
asks_none view server None = refl
asks_none view server (Some id) = refl

answers_no : {X : Type 0} (o : Option Reply) (reply : Reply) → o ≡ None → o ≡ Some reply → X
answers_no o reply none e = absurd (let q : None ≡ Some reply = sym none ∙ e in cc)

module _ (view : View) (own_of : Own) (h : HostId) (user : User) (reply : Reply) where
  alone : (call : Call) → reply_now (outcome view (call_look own_of h user call)) ≡ Some reply
      → (is_answered_alone call ≡ true) × (keeps_limit call ≡ true)
  unfolding call_look
  alone (Read place from len) e = (refl, refl)
  alone (Write place from bytes) e = (refl, refl)
  alone (ListNames place) e = (refl, refl)
  alone (Stat place) e = (refl, refl)
  alone (GetAcl place which) e = (refl, refl)
  alone (Sync place) e = (refl, refl)
  alone (LockCall label place writing from len) e = (refl, refl)
  alone (Unlock label) e = (refl, refl)
  alone (OpenFile label place kind) e = (refl, refl)
  alone (CloseFile label) e = (refl, refl)
  alone (NewFileset server name objects owner) e = answers_no None reply refl e
  alone (CloneFileset server source name) e = answers_no None reply refl e
  alone (Create place) e =
      answers_no _ reply (asks_none view place.server (own_of.seen place.server place.fileset)) e
  alone (MakeDir place) e =
      answers_no _ reply (asks_none view place.server (own_of.seen place.server place.fileset)) e
  alone (Remove place) e =
      answers_no _ reply (asks_none view place.server (own_of.seen place.server place.fileset)) e
  alone (Rename from to) e =
      answers_no _ reply (asks_none view from.server (own_of.seen from.server from.fileset)) e
  alone (Truncate place len) e =
      answers_no _ reply (asks_none view place.server (own_of.seen place.server place.fileset)) e
  alone (SetAcl place which list) e =
      answers_no _ reply (asks_none view place.server (own_of.seen place.server place.fileset)) e
  alone (MoveFileset server name to) e =
      answers_no _ reply (asks_none view server (own_of.seen server name)) e

-- what is written stays unsaved
kept_written : {X : Type 0} (h : HostId) (o : Option X) (z : Cell X) → (written h o z).kept ≡ z.kept
kept_written h None z = refl
kept_written h (Some x) z = refl

module _ (script : Script) (start : Tree) (firsts : ServerId → ℕ) (c : Contents) (same : IsOfJournal c)
    (past : List Step) (h : HostId) (s : Step) (m : StepMeets script start firsts (Host h) past s)
    (t : Tree) (stands : Stands script start c past t)
    (answers : (a : Answer) → In a s.answers → IsLegal t (call_entry a)
    × ((f : Fid) (p : Part)
    → cell_at (after_entry t (call_entry a)) f p ≡ tree_after c (Host h) s past (tree c past) f p))
  where
    -- what is left by some answers of the step
    abbrev Leaves : List Answer → Type 0
    Leaves xs =
        IsHistory t (map call_entry xs)
        × StandsNext script start c past s (Host h) (after_history t (map call_entry xs))
        × LeadsOn t (after_history t (map call_entry xs))

    -- a step that answers nothing writes nothing
    none_wrote : s.answers ≡ [] → (f : Fid) (p : Part)
        → c.wrote (steps_of_host h past) s f p ≡ (let none : Option (Seen p) = None in none)
    none_wrote e f p =
        same.wrote (steps_of_host h past) s f p
        ∙ (ap (λ (xs : List Answer). if writes_to s f
        then written_at (written_in xs) (sees (steps_of_host h past) s f Size) p else None) e
        ∙ both (writes_to s f))
      where
        both : (b : Bool) → (if b then (let none : Option (Seen p) = None in none) else None)
            ≡ (let none : Option (Seen p) = None in none)
        both true = refl
        both false = refl

    leaves_none : s.answers ≡ [] → Leaves []
    leaves_none e = (
      tt,
      record {
        formed = stands.formed;
        roster_is = stands.roster_is;
        unmoved = stands.unmoved;
        homes = stands.homes;
        keeps = stands.keeps;
        cells = λ f p. stands.cells f p
            ∙ sym (ap (λ (o : Option (Seen p)). written h o (tree c past f p)) (none_wrote e f p));
      },
      λ server name id k. k,
    )

    -- one call is answered
    module _ (a : Answer) (i : In a s.answers) where
      abbrev left : Tree
      left = (answer_to t a.host a.call).tree

      is_alone : (is_answered_alone a.call ≡ true) × (keeps_limit a.call ≡ true)
      is_alone =
          alone (sees (steps_of_host h past) s) m.0.stance.own h m.0.stance.user a.reply a.call
          (m.0.answers.answers a i).2.settled

      kept_same : (f : Fid) (p : Part) → (cell_at left f p).kept ≡ (cell_at t f p).kept
      kept_same f p =
          ap (λ (z : Cell (Seen p)). z.kept) ((answers a i).1 f p)
          ∙ (kept_written h (c.wrote (steps_of_host h past) s f p) (tree c past f p)
          ∙ ap (λ (z : Cell (Seen p)). z.kept) (sym (stands.cells f p)))

      all : KeepsAll t left
      all = calls_keep_all t a.host a.call stands.formed is_alone.0 kept_same

      leaves_one : Leaves (a ∷ [])
      leaves_one = (
        ((answers a i).0, tt),
        record {
          formed = formed_answer t a.host a.call stands.formed is_alone.1;
          roster_is = all.roster ∙ stands.roster_is;
          unmoved = all.away ∙ stands.unmoved;
          homes = still_home t left all stands.homes;
          keeps = λ v. still_keeps v (filesets_kept start v (steps_of_server v past)) t left all (stands.keeps v);
          cells = (answers a i).1;
        },
        λ server name id k. (let r = names_lead_on t (call_entry a) server name k.0 stands.formed k.1 in
            (r.0, r.1, r.2 ∙ k.2)),
      )

    pub leaves_answers : Leaves s.answers
    leaves_answers = go s.answers refl m.0.answers.answers_one
      where
        go : (xs : List Answer) → s.answers ≡ xs → length xs ≤ 1 → Leaves xs
        go [] e le = leaves_none e
        go (a ∷ []) e le = leaves_one a (subst (In a) (sym e) (inl refl))
        go (a ∷ b ∷ xs) e le = absurd (let k : suc (suc (length xs)) ≤ 1 = le in omega (arith, k))
