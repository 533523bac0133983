-- What a server's step decides: each Change is legal, and leaves a tree that agrees with the run.
use Rattle.std.proofs.Common.{Bool, List, None, Option, Some, ap, false, inl, inr, not, refl, subst, sym, true, ℕ}
use Rattle.std.proofs.Common.{◌&&◌, ◌==◌, ◌||◌, ◌∙◌, ◌∷◌, ◌≡◌, ◌≢◌}
use Rattle.std.proofs.lemmas.Bool.{and_parts, eqb-true, false≢true}
use Rattle.std.specs.List.{flat_map, list_all, list_any}
use Rattle.std.specs.Prelude.{[], filter, if◌then◌else◌}
use Rattle.base_types.specs.declared.ids.Fid.{Fid}
use Rattle.base_types.specs.declared.ids.FilesetId.{FilesetId}
use Rattle.base_types.specs.declared.ids.HostId.{HostId}
use Rattle.base_types.specs.declared.ids.ServerId.{ServerId}
use Rattle.base_types.specs.declared.user.User.{User}
use Rattle.tree_calls.specs.Limits.{keeps_limit}
use Rattle.tree_calls.specs.Rosters.{user_of}
use Rattle.tree_calls.specs.declared.call.Call.{Call}
use Rattle.tree_calls.specs.declared.call.Call.TheVariants.{CloneFileset, CloseFile, Create, GetAcl, List as ListNames}
use Rattle.tree_calls.specs.declared.call.Call.TheVariants.{Lock as LockCall, MakeDir, MoveFileset, NewFileset}
use Rattle.tree_calls.specs.declared.call.Call.TheVariants.{OpenFile, Read, Remove, Rename, SetAcl, Stat, Sync}
use Rattle.tree_calls.specs.declared.call.Call.TheVariants.{Truncate, Unlock, Write}
use Rattle.tree_calls.specs.declared.entry.Entry.TheVariants.{Call as CallEntry}
use Rattle.tree_calls.specs.declared.reply.Refusal.{Refusal}
use Rattle.tree_calls.specs.declared.reply.Reply.{Reply}
use Rattle.tree_calls.specs.declared.reply.Reply.TheVariants.{Refused}
use Rattle.tree_filesets.specs.declared.fileset.Fileset.{Fileset}
use Rattle.need_host.proofs.Leading.{names_lead_on}
use Rattle.need_host.specs.Questions.{is_change}
use Rattle.tree_answers.proofs.Kept.{formed_answer}
use Rattle.tree_answers.proofs.Refusals.{refused_call}
use Rattle.tree_answers.specs.Answers.{answer_to}
use Rattle.tree_answers.specs.Finding.{has_id}
use Rattle.tree_answers.specs.Histories.{IsHistory, IsLegal, after_history}
use Rattle.tree_answers.specs.Losses.{is_at}
use Rattle.tree_answers.specs.WellFormed.{IsWellFormed}
use Rattle.tree_answers.specs.declared.tree.Away.{Away}
use Rattle.tree_answers.specs.declared.tree.Tree.{Tree}
use Rattle.need_laws.proofs.Others.{calls_leave_others}
use Rattle.tree_laws.proofs.Labels.{labels_change_so}
use Rattle.tree_laws.specs.Labels.{locks_for, opens_for}
use Rattle.script_lines.specs.declared.script.Script.{Script}
use Rattle.need_laws.proofs.Elsewhere.{calls_stay_at_their_server, others_stay}
use Rattle.need_laws.specs.Known.{IsAt, is_known, is_record_of, records_of}
use Rattle.tree_laws.proofs.Steps.{same_number}
use Rattle.tree_laws.specs.Parts.{Cell, Part, Seen, cell_at}
use Rattle.run_history.specs.Agreement.{LeadsTo}
use Rattle.run_history.specs.Changes.{AgreesKept, EachChange, IsLegalChange, are_home, is_home}
use Rattle.run_history.specs.Granted.{GrantedAt}
use Rattle.run_rules.specs.Doings.{Doing, decisions_of}
use Rattle.run_rules.specs.Doings.Doing.{WritesDown}
use Rattle.run_rules.specs.Kept.{filesets_after, filesets_kept, filesets_through, is_refusal}
use Rattle.run_rules.specs.Messages.{home}
use Rattle.run_rules.specs.Past.{In, appended}
use Rattle.run_rules.specs.Runs.{call_entry, entries_in}
use Rattle.run_rules.specs.ServerDecides.{is_decision}
use Rattle.run_rules.specs.Steps.{steps_of_server}
use Rattle.run_rules.specs.Wants.{is_use}
use Rattle.run_rules.specs.declared.applied.Applied.TheVariants.{Done as IsDone, IsDown, Replied, Stored}
use Rattle.run_rules.specs.declared.applied.Applied.TheVariants.{Moves as IsMoved, Wants as IsWanted}
use Rattle.run_history.proofs.Keeping.{homes_of, is_its, same_keeps}
use Rattle.run_history.specs.PastStanding.{KeepsAs}
use Rattle.run_parts.specs.Cells.{cell_after}
use Rattle.run_parts.specs.Cells.Does.{Nothing}
use Rattle.run_parts.specs.Contents.{Contents, site}
use Rattle.run_parts.specs.Legal.{Cells, cells_served, tree}
use Rattle.run_contents.proofs.Bodies.{server_is}
use Rattle.run_contents.proofs.Words.{any_in}
use Rattle.run_contents.specs.Doing.{decided, writes}
use Rattle.run_rules.specs.declared.applied.Applied.{Applied}
use Rattle.run_rules.specs.declared.applied.Written.{Written}
use Rattle.run_rules.specs.declared.step.Step.{Step}
use Rattle.run_history.specs.UseGranted.{CellsWritten, GrantedThrough}

-- lists of which a test leaves none
pub none_left : {X : Type 0} (q : X → Bool) (xs : List X) → filter (λ x. not (q x)) xs ≡ [] → list_all q xs ≡ true
none_left q [] e = refl
none_left q (x ∷ xs) e = go (q x) refl e (λ k. none_left q xs k)
  where
    go : (b : Bool) → q x ≡ b
        → (if not b then x ∷ filter (λ x. not (q x)) xs else filter (λ x. not (q x)) xs) ≡ []
        → (filter (λ x. not (q x)) xs ≡ [] → list_all q xs ≡ true) → list_all q (x ∷ xs) ≡ true
    go true k e rest = ap (λ (b : Bool). b && list_all q xs) k ∙ rest e
    go false k e rest = absurd (let r : x ∷ filter (λ x. not (q x)) xs ≡ [] = e in cc)

none_known : (v : ServerId) (records : List Away) (xs : List Fileset) → list_all (is_its v) xs ≡ true
    → filter (λ fileset. not (is_known records v fileset)) xs ≡ []
none_known v records [] e = refl
none_known v records (x ∷ xs) e =
    let k = and_parts (is_its v x) (list_all (is_its v) xs) e in
    ap (λ (b : Bool). if not (b || list_any (λ (away : Away). has_id away.fileset x) records)
    then x ∷ filter (λ fileset. not (is_known records v fileset)) xs
    else filter (λ fileset. not (is_known records v fileset)) xs) k.0
    ∙ none_known v records xs k.1

all_known : (v : ServerId) (xs : List Fileset) → list_all (is_known [] v) xs ≡ true → list_all (is_its v) xs ≡ true
all_known v [] e = refl
all_known v (x ∷ xs) e =
    let k = and_parts (is_known [] v x) (list_all (is_known [] v) xs) e in
    ap (λ (b : Bool). b && list_all (is_its v) xs) (first (is_its v x) k.0) ∙ all_known v xs k.1
  where
    first : (b : Bool) → (b || false) ≡ true → b ≡ true
    first true e = refl
    first false e = e

-- a call at a server leaves the server's own filesets alone
own_after : (v : ServerId) (K : Tree) (host : HostId) (call : Call) → IsAt v call → records_of v K ≡ []
    → list_all (is_its v) K.filesets ≡ true → list_all (is_its v) (answer_to K host call).tree.filesets ≡ true
own_after v K host call at few own =
    let so = calls_stay_at_their_server K v host call at in
    all_known v (answer_to K host call).tree.filesets
    (none_left (is_known [] v) (answer_to K host call).tree.filesets
    (subst (λ (records : List Away).
    filter (λ fileset. not (is_known records v fileset)) (answer_to K host call).tree.filesets ≡ []) few
    (so.filesets ∙ none_known v (records_of v K) K.filesets own)))

-- no fileset of another server is at it
apart_home : (v : ServerId) (id : FilesetId) (t : Tree) → are_home t ≡ true → (home id ≡ v → ⊥)
    → is_at t.filesets v id ≡ false
apart_home v id t homes other = go (is_at t.filesets v id) refl
  where
    go : (b : Bool) → is_at t.filesets v id ≡ b → is_at t.filesets v id ≡ false
    go false e = e
    go true e =
        let x = any_in (λ (fileset : Fileset). has_id id fileset && (fileset.server.0 == v.0)) t.filesets e in
        let k = and_parts (has_id id x.0) (x.0.server.0 == v.0) x.2 in
        let one : x.0.id ≡ id = ap (λ (n : ℕ). record { 0 = n }) (eqb-true x.0.id.0 id.0 k.0) in
        let its : x.0.server ≡ home x.0.id = server_is x.0.server (home x.0.id) (all_in t.filesets x.0 homes x.1) in
        absurd (other (ap home (sym one) ∙ (sym its ∙ server_is x.0.server v k.1)))
      where
        all_in : (xs : List Fileset) (x : Fileset) → list_all is_home xs ≡ true → In x xs → is_home x ≡ true
        all_in [] x e i = elim i [ ]
        all_in (y ∷ ys) x e (inl q) = ap is_home q ∙ (and_parts (is_home y) (list_all is_home ys) e).0
        all_in (y ∷ ys) x e (inr i) = all_in ys x (and_parts (is_home y) (list_all is_home ys) e).1 i

-- a Change that has its effect takes no label
module _ (tree : Tree) (host : HostId) where
  uses_for : (call : Call) (o : Option User) → is_change call ≡ true → is_use call ≡ false
      → (locks_for tree host call o ≡ tree.locks) × (opens_for tree host call o ≡ tree.opens)
  uses_for (NewFileset server name objects owner) (Some user) c u = (refl, refl)
  uses_for (NewFileset server name objects owner) None c u = (refl, refl)
  uses_for (Create place) (Some user) c u = (refl, refl)
  uses_for (Create place) None c u = (refl, refl)
  uses_for (MakeDir place) (Some user) c u = (refl, refl)
  uses_for (MakeDir place) None c u = (refl, refl)
  uses_for (Remove place) (Some user) c u = (refl, refl)
  uses_for (Remove place) None c u = (refl, refl)
  uses_for (Rename from to) (Some user) c u = (refl, refl)
  uses_for (Rename from to) None c u = (refl, refl)
  uses_for (Truncate place len) (Some user) c u = (refl, refl)
  uses_for (Truncate place len) None c u = (refl, refl)
  uses_for (SetAcl place which list) (Some user) c u = (refl, refl)
  uses_for (SetAcl place which list) None c u = (refl, refl)
  uses_for (CloneFileset server source name) (Some user) c u = (refl, refl)
  uses_for (CloneFileset server source name) None c u = (refl, refl)
  uses_for (MoveFileset server name to) (Some user) c u = (refl, refl)
  uses_for (MoveFileset server name to) None c u = (refl, refl)
  uses_for (LockCall label place writing from len) o c u = absurd (false≢true (sym u))
  uses_for (OpenFile label place kind) o c u = absurd (false≢true (sym u))
  uses_for (Read place from len) o c u = absurd (false≢true c)
  uses_for (Write place from bytes) o c u = absurd (false≢true c)
  uses_for (ListNames place) o c u = absurd (false≢true c)
  uses_for (Stat place) o c u = absurd (false≢true c)
  uses_for (GetAcl place which) o c u = absurd (false≢true c)
  uses_for (Sync place) o c u = absurd (false≢true c)
  uses_for (Unlock label) o c u = absurd (false≢true c)
  uses_for (CloseFile label) o c u = absurd (false≢true c)

  pub uses_stay : (call : Call) → is_change call ≡ true → is_use call ≡ false
      → ((answer_to tree host call).tree.locks ≡ tree.locks) × ((answer_to tree host call).tree.opens ≡ tree.opens)
  uses_stay call c u =
      let so = labels_change_so tree (CallEntry host 0 call (answer_to tree host call).reply) in
      let k = uses_for call (user_of tree.roster host) c u in
      (so.locks ∙ k.0, so.opens ∙ k.1)

refusal_of_it : (reply : Reply) → is_refusal reply ≡ true → (r : Refusal) × (reply ≡ Refused r)
refusal_of_it (Refused r) e = (r, refl)
refusal_of_it _ e = absurd (false≢true e)

-- a Change with its effect: of this server, and none of a label
pub record GoesHere (v : ServerId) (call : Call) : Type 0 where
  pub change : is_change call ≡ true
  pub here : IsAt v call
  pub limited : keeps_limit call ≡ true
  pub plain : is_use call ≡ false

module _ (script : Script) (start : Tree) (c : Contents) (past : List Step) (v : ServerId) where
  -- a tree in the midst of a step: `K` is what the server keeps then, `cells` what stands at the parts of its files
  pub record Amid (K : Tree) (cells : Cells) (old t : Tree) : Type 0 where
    pub formed : IsWellFormed t
    pub roster_is : t.roster ≡ script.roster
    pub unmoved : t.away ≡ []
    pub homes : are_home t ≡ true
    pub keeps : KeepsAs v K t
    pub others : (w : ServerId) → w ≢ v → KeepsAs w (filesets_kept start w (steps_of_server w past)) t
    pub cells_here : (f : Fid) (p : Part) → site f ≡ v → cell_at t f p ≡ cells f p
    pub cells_else : (f : Fid) (p : Part) → (site f ≡ v → ⊥) → cell_at t f p ≡ tree c past f p
    pub leads : (server : ServerId) (name : List ℕ) (id : FilesetId) → LeadsTo old server name id
        → LeadsTo t server name id

module _ (script : Script) (start : Tree) (c : Contents) (past : List Step) (v : ServerId) (s : Step)
    (Labels : Tree → Type 0)
    (labels_same : (a b : Tree) → a.locks ≡ b.locks → a.opens ≡ b.opens → Labels a → Labels b) where
  -- so, with labels as they stand
  abbrev Mid : Tree → Cells → Tree → Tree → Type 0
  Mid K cells old t = Amid script start c past v K cells old t

  -- what is known of a Change that is written down
  pub record Fits (before : List Doing) (K : Tree) (x : Written) : Type 0 where
    pub legal : (t : Tree) → AgreesKept v before K t → Labels t → IsLegalChange v s.cause K x t
    pub goes : is_refusal x.answer.reply ≡ false → GoesHere v x.answer.call

  -- one Change
  module _ (before : List Doing) (K : Tree) (cells : Cells) (old t : Tree) (m : Mid K cells old t) (labels : Labels t)
      (x : Written) (fits : Fits before K x) (granted : GrantedAt v before cells) where
    abbrev host : HostId
    host = x.answer.host

    abbrev call : Call
    call = x.answer.call

    abbrev next : Tree
    next = (answer_to t host call).tree

    abbrev K' : Tree
    K' = filesets_after s.cause K (IsDone x)

    agree : AgreesKept v before K t
    agree = record {
      formed = m.formed;
      unmoved = m.unmoved;
      homes = m.homes;
      kept_homes = homes_of v K t m.keeps m.unmoved m.homes;
      own = m.keeps.own;
      locks = m.keeps.locks;
      opens = m.keeps.opens;
      same = m.keeps.same;
      granted = λ grace f p u at e.
          granted grace f p u at (ap (λ (z : Cell (Seen p)). z.unsaved) (sym (m.cells_here f p at)) ∙ e);
    }

    legal : IsLegalChange v s.cause K x t
    legal = fits.legal t agree labels

    here_then : (f : Fid) (p : Part) → site f ≡ v → cell_at next f p ≡ CellsWritten v s.cause K x cells f p
    here_then f p at =
        let mine : ((site f).0 == v.0) ≡ true = ap (λ (w : ServerId). w.0 == v.0) at ∙ same_number v.0 in
        legal.cells f p at
        ∙ (ap (λ (z : Cell (Seen p)). cell_after p (writes s.cause K x f p) z) (m.cells_here f p at)
        ∙ ap (λ (b : Bool). cell_after p (if b then writes s.cause K x f p else Nothing) (cells f p)) (sym mine))

    leads_then : (server : ServerId) (name : List ℕ) (id : FilesetId) → LeadsTo old server name id
        → LeadsTo next server name id
    leads_then server name id k =
        let q = m.leads server name id k in
        let r = names_lead_on t (call_entry x.answer) server name q.0 m.formed q.1 in
        (r.0, r.1, r.2 ∙ q.2)

    refused : is_refusal x.answer.reply ≡ true → Mid K' (CellsWritten v s.cause K x cells) old next
    refused e =
        let r = refusal_of_it x.answer.reply e in
        let stays : next ≡ t = refused_call t host call r.0 (sym legal.reply ∙ r.1) in
        let kept_is : K' ≡ K = ap (λ (b : Bool). if b then K else (answer_to K host call).tree) e in
        record {
          formed = subst IsWellFormed (sym stays) m.formed;
          roster_is = ap (λ (z : Tree). z.roster) stays ∙ m.roster_is;
          unmoved = ap (λ (z : Tree). z.away) stays ∙ m.unmoved;
          homes = legal.homes;
          keeps = record {
            same = legal.same;
            own = ap (λ (z : Tree). list_all (is_its v) z.filesets) kept_is ∙ m.keeps.own;
            locks = ap (λ (z : Tree). z.locks) kept_is ∙ m.keeps.locks;
            opens = ap (λ (z : Tree). z.opens) kept_is ∙ m.keeps.opens;
          };
          others = λ w other. subst (KeepsAs w (filesets_kept start w (steps_of_server w past))) (sym stays) (m.others w other);
          cells_here = here_then;
          cells_else = λ f p other. ap (λ (z : Tree). cell_at z f p) stays ∙ m.cells_else f p other;
          leads = leads_then;
        }

    accepted : is_refusal x.answer.reply ≡ false → Mid K' (CellsWritten v s.cause K x cells) old next
    accepted e =
        let g = fits.goes e in
        let so = calls_stay_at_their_server t v host call g.here in
        let kept_is : K' ≡ (answer_to K host call).tree =
        ap (λ (b : Bool). if b then K else (answer_to K host call).tree) e in
        let kept_uses = uses_stay K host call g.change g.plain in
        let few : records_of v K ≡ [] =
        m.keeps.same.records ∙ ap (λ (xs : List Away). filter (is_record_of v) xs) m.unmoved in
        record {
          formed = formed_answer t host call m.formed g.limited;
          roster_is = so.roster ∙ m.roster_is;
          unmoved = so.records ∙ m.unmoved;
          homes = legal.homes;
          keeps = record {
            same = legal.same;
            own = ap (λ (z : Tree). list_all (is_its v) z.filesets) kept_is
                ∙ own_after v K host call g.here few m.keeps.own;
            locks = ap (λ (z : Tree). z.locks) kept_is ∙ (kept_uses.0 ∙ m.keeps.locks);
            opens = ap (λ (z : Tree). z.opens) kept_is ∙ (kept_uses.1 ∙ m.keeps.opens);
          };
          others = λ w other. same_keeps w (filesets_kept start w (steps_of_server w past)) t next
              (others_stay t v w host call m.unmoved g.here other) (m.others w other);
          cells_here = here_then;
          cells_else = λ f p other. calls_leave_others t v host call f p m.unmoved g.here
              (apart_home v f.fileset t m.homes other) (apart_home v f.fileset next legal.homes other)
              ∙ m.cells_else f p other;
          leads = leads_then;
        }

    refused_labels : is_refusal x.answer.reply ≡ true → Labels next
    refused_labels e =
        let r = refusal_of_it x.answer.reply e in
        subst Labels (sym (refused_call t host call r.0 (sym legal.reply ∙ r.1))) labels

    accepted_labels : is_refusal x.answer.reply ≡ false → Labels next
    accepted_labels e =
        let g = fits.goes e in
        let uses = uses_stay t host call g.change g.plain in
        labels_same t next (sym uses.0) (sym uses.1) labels

    one_change : IsLegal t (call_entry x.answer) × Mid K' (CellsWritten v s.cause K x cells) old next × Labels next
    one_change = go (is_refusal x.answer.reply) refl
      where
        go : (b : Bool) → is_refusal x.answer.reply ≡ b
            → IsLegal t (call_entry x.answer) × Mid K' (CellsWritten v s.cause K x cells) old next × Labels next
        go true e = (legal.reply, refused e, refused_labels e)
        go false e = (legal.reply, accepted e, accepted_labels e)

  -- one after the other
  pub all_changes : (xs : List Applied) (before : List Doing) (K : Tree) (cells : Cells) (old t : Tree)
      → list_all is_decision xs ≡ true → EachChange Fits s.cause K before xs
      → GrantedThrough v s.cause K before cells xs → Mid K cells old t → Labels t
      → IsHistory t (flat_map (entries_in v) xs)
      × Mid (filesets_through s.cause xs K) (cells_served (decided v s.cause K xs) cells) old
      (after_history t (flat_map (entries_in v) xs))
      × Labels (after_history t (flat_map (entries_in v) xs))
  all_changes [] before K cells old t all fits granted m labels = (tt, m, labels)
  all_changes (IsDone x ∷ xs) before K cells old t all fits granted m labels =
      let one = one_change before K cells old t m labels x fits.0 granted.0 in
      let rest = all_changes xs (WritesDown x ∷ before) (filesets_after s.cause K (IsDone x)) (CellsWritten v s.cause K x cells)
      old (answer_to t x.answer.host x.answer.call).tree all fits.1 granted.1 one.1 one.2 in
      ((one.0, rest.0), rest.1, rest.2)
  all_changes (IsWanted w ∷ xs) before K cells old t all fits granted m labels =
      all_changes xs (appended (decisions_of (IsWanted w)) before) K cells old t all fits granted m labels
  all_changes (Replied a ∷ xs) before K cells old t all fits granted m labels = absurd (false≢true all)
  all_changes (Stored h f spans n ∷ xs) before K cells old t all fits granted m labels = absurd (false≢true all)
  all_changes (IsDown h ∷ xs) before K cells old t all fits granted m labels = absurd (false≢true all)
  all_changes (IsMoved move ∷ xs) before K cells old t all fits granted m labels = absurd (false≢true all)
