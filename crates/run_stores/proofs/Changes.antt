-- A Change that is done in what a server keeps by the rules, and in its store.
use Rattle.std.proofs.Common.{◌≡◌, ℕ, ◌==◌, true, false, Some, refl, sym, ap, ◌∙◌, subst}
use Rattle.std.specs.Option.{option_map}
use Rattle.base_types.specs.declared.ids.FilesetId.{FilesetId}
use Rattle.base_types.specs.declared.ids.HostId.{HostId}
use Rattle.tree_calls.specs.declared.call.Call.{Call}
use Rattle.tree_calls.specs.declared.call.Call.TheVariants.{
  NewFileset,
  Create,
  MakeDir,
  Remove,
  Rename,
  Truncate,
  SetAcl,
  CloneFileset,
  Read,
  Write,
  List as ListNames,
  Stat,
  GetAcl,
  Sync,
  Lock,
  Unlock,
  OpenFile,
  CloseFile,
  MoveFileset,
}
use Rattle.tree_calls.specs.declared.reply.Reply.{Reply}
use Rattle.tree_calls.specs.declared.reply.Reply.TheVariants.{Ok as Accepted, Bytes, Names, Facts, Access, Refused}
use Rattle.tree_filesets.specs.declared.fileset.Fileset.{Fileset}
use Rattle.tree_answers.specs.Answers.{answer_to}
use Rattle.tree_answers.specs.declared.tree.Tree.{Tree}
use Rattle.tree_answers.proofs.AfterMove.{same_server}
use Rattle.tree_answers.proofs.Places.{find_at_place, get_all}
use Rattle.store_laws.proofs.HistoryRows.{found_to, row_to, is_row}
use Rattle.store_acts.specs.Sound.{HasName, IsAct}
use Rattle.store_acts.specs.declared.act.Act.TheVariants.{Do}
use Rattle.store_state.specs.Rows.{itself, numbered_id, numbered_name}
use Rattle.store_state.specs.State.{held_at, held_so, is_here_as}
use Rattle.store_state.specs.declared.state.Holding.{Holding}
use Rattle.store_state.specs.declared.state.StoreState.{StoreState}
use Rattle.store_laws.specs.Calls.{DoesKeep, IsDecidedBy, IsNewChange, made_at}
use Rattle.store_laws.specs.Idle.{is_refused}
use Rattle.store_laws.proofs.Called.{leads_so, led_name, led_there}
use Rattle.store_laws.proofs.KeptFounds.{founds_are_kept}
use Rattle.store_laws.proofs.Keys.{same_key}
use Rattle.store_laws.proofs.KeptRows.{named_slot, rows_are_kept}
use Rattle.store_laws.proofs.KeptSteps.{held_here}
use Rattle.run_rules.specs.Kept.{is_refusal}
use Rattle.run_stores.specs.Changing.{ChangesAreKept}
use Rattle.run_stores.specs.Keeping.{StandsFor}

pub refusal_is : (reply : Reply) → is_refusal reply ≡ is_refused reply
refusal_is Accepted = refl
refusal_is (Bytes bytes) = refl
refusal_is (Names names) = refl
refusal_is (Facts facts) = refl
refusal_is (Access list) = refl
refusal_is (Refused refusal) = refl

some_same : {A : Type 0} (a b : A) → Some a ≡ Some b → a ≡ b
some_same a b e = cc

-- the fileset that decides a call is the server's, and the one under which its store numbers it
pub decides_own : (tree : Tree) (state : StoreState) (call : Call) (fileset : Fileset) → StandsFor tree state →
    IsDecidedBy tree call fileset → fileset.server ≡ state.server
decides_own tree state call fileset s by =
    same_server fileset.server state.server
    (get_all (λ (f : Fileset). f.server.0 == state.server.0) tree.filesets by.place fileset (sym by.there) s.is_of.own)

numbered_so : (tree : Tree) (state : StoreState) (call : Call) (fileset : Fileset) → StandsFor tree state →
    IsDecidedBy tree call fileset → numbered_id state (numbered_name call) ≡ Some fileset.id
numbered_so tree state call fileset s by =
    let l = leads_so tree call by.place by.decides in
    let name = led_name tree l.server l.name fileset s.formed
    (led_there tree l.server l.name by.place fileset l.led by.there) in
    let known = find_at_place fileset.id tree.filesets by.place fileset (sym by.there) s.formed.ordered
    (same_key fileset.id.0) in
    let (holding, h) = held_here tree state fileset s.keeps known (decides_own tree state call fileset s by) in
    let slot = named_slot state fileset holding l.name s.keeps.storable h name in
    let held : held_so (is_here_as l.name) state.slots ≡ Some holding = ap (held_at state.slots) slot ∙ h.held in
    ap (numbered_id state) l.numbered ∙ ap (option_map (λ (x : Holding). x.fileset.id)) held
    ∙ ap (λ (f : Fileset). Some f.id) h.same

row_kept : (tree : Tree) (state : StoreState) (host : HostId) (number : ℕ) (call : Call) (id : FilesetId) →
    StandsFor tree state → is_row call ≡ true → IsAct state.roster state.server (Do host number call) →
    numbered_id state (numbered_name call) ≡ Some id → IsNewChange state id host number →
    is_refusal (answer_to tree host call).reply ≡ false →
    DoesKeep (answer_to tree host call).tree state (Do host number call)
row_kept tree state host number call id s row fits numbered new done =
    let r = row_to tree host call row (sym (refusal_is (answer_to tree host call).reply) ∙ done) in
    let its : id ≡ r.fileset.id = some_same id r.fileset.id (sym numbered ∙ numbered_so tree state call r.fileset s r.by) in
    rows_are_kept.here tree state host number call r.fileset s.formed s.keeps r.by
    (decides_own tree state call r.fileset s r.by) r.accepted (subst (λ i. IsNewChange state i host number) its new) fits

found_kept : (tree : Tree) (state : StoreState) (host : HostId) (number : ℕ) (call : Call) (id : FilesetId) →
    StandsFor tree state → made_at call ≡ Some state.server → IsAct state.roster state.server (Do host number call) →
    HasName call → itself ≡ id → IsNewChange state id host number →
    is_refusal (answer_to tree host call).reply ≡ false →
    DoesKeep (answer_to tree host call).tree state (Do host number call)
found_kept tree state host number call id s made fits name its new done =
    let accepted = found_to tree host call state.server made
    (sym (refusal_is (answer_to tree host call).reply) ∙ done) in
    founds_are_kept.here tree state host number call s.formed s.keeps made accepted
    (subst (λ i. IsNewChange state i host number) (sym its) new) fits name

pub changes_are_kept : ChangesAreKept
changes_are_kept tree state host number (NewFileset at name objects owner) id s own fits named numbered new done =
    found_kept tree state host number (NewFileset at name objects owner) id s (ap Some own) fits named
    (some_same itself id numbered) new done
changes_are_kept tree state host number (CloneFileset at source name) id s own fits named numbered new done =
    found_kept tree state host number (CloneFileset at source name) id s (ap Some own) fits named
    (some_same itself id numbered) new done
changes_are_kept tree state host number (Create place) id s own fits named numbered new done =
    row_kept tree state host number (Create place) id s refl fits numbered new done
changes_are_kept tree state host number (MakeDir place) id s own fits named numbered new done =
    row_kept tree state host number (MakeDir place) id s refl fits numbered new done
changes_are_kept tree state host number (Remove place) id s own fits named numbered new done =
    row_kept tree state host number (Remove place) id s refl fits numbered new done
changes_are_kept tree state host number (Rename from to) id s own fits named numbered new done =
    row_kept tree state host number (Rename from to) id s refl fits numbered new done
changes_are_kept tree state host number (Truncate place len) id s own fits named numbered new done =
    row_kept tree state host number (Truncate place len) id s refl fits numbered new done
changes_are_kept tree state host number (SetAcl place which list) id s own fits named numbered new done =
    row_kept tree state host number (SetAcl place which list) id s refl fits numbered new done
changes_are_kept tree state host number (Read place from len) id s own fits named numbered new done = absurd fits.1
changes_are_kept tree state host number (Write place from bytes) id s own fits named numbered new done = absurd fits.1
changes_are_kept tree state host number (ListNames place) id s own fits named numbered new done = absurd fits.1
changes_are_kept tree state host number (Stat place) id s own fits named numbered new done = absurd fits.1
changes_are_kept tree state host number (GetAcl place which) id s own fits named numbered new done = absurd fits.1
changes_are_kept tree state host number (Sync place) id s own fits named numbered new done = absurd fits.1
changes_are_kept tree state host number (Lock label place writing from len) id s own fits named numbered new done =
    absurd fits.1
changes_are_kept tree state host number (Unlock label) id s own fits named numbered new done = absurd fits.1
changes_are_kept tree state host number (OpenFile label place kind) id s own fits named numbered new done =
    absurd fits.1
changes_are_kept tree state host number (CloseFile label) id s own fits named numbered new done = absurd fits.1
changes_are_kept tree state host number (MoveFileset server name to) id s own fits named numbered new done = absurd own
