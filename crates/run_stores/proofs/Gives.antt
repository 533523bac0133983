-- A give-back in what a server keeps by the rules, and in its store.
use Rattle.std.proofs.Common.{◌≡◌, ℕ, zero, suc, ◌==◌, nat_lt, Bool, true, false, ◌&&◌, ◌||◌, not, List, [], ◌∷◌, Option, Some, None, refl, sym, ap, ◌∙◌, subst, arith}
use Rattle.std.specs.Prelude.{slice_get, slice_set, if◌then◌else◌, option_and_then}
use Rattle.std.specs.List.{find, list_all, prefix_len}
use Rattle.std.specs.Option.{option_map, option_map_or}
use Rattle.std.proofs.lemmas.Grind.{common_steps}
use Rattle.base_types.specs.Lists.{changed_at}
use Rattle.base_types.specs.declared.ids.Fid.{Fid}
use Rattle.base_types.specs.declared.ids.FilesetId.{FilesetId}
use Rattle.base_types.specs.declared.ids.HostId.{HostId}
use Rattle.base_types.specs.declared.ids.ServerId.{ServerId}
use Rattle.tree_calls.specs.declared.part.Piece.{Piece}
use Rattle.tree_calls.specs.declared.reply.Refusal.TheVariants.{NoFileset}
use Rattle.tree_calls.specs.declared.reply.Reply.TheVariants.{Ok as Accepted, Refused}
use Rattle.tree_objects.specs.declared.content.Content.{Content}
use Rattle.tree_filesets.specs.Laws.{is_file_at}
use Rattle.tree_filesets.specs.Updates.{updated, changed}
use Rattle.tree_filesets.specs.declared.fileset.Fileset.{Fileset}
use Rattle.tree_filesets.proofs.Updates.{found_changed, found_same}
use Rattle.tree_answers.specs.Finding.{has_id}
use Rattle.tree_answers.specs.Founding.{room_of}
use Rattle.tree_answers.specs.Stores.{place_with_id}
use Rattle.tree_answers.specs.declared.tree.Away.{Away}
use Rattle.tree_answers.specs.declared.tree.Tree.{Tree}
use Rattle.tree_answers.proofs.AfterMove.{same_server}
use Rattle.tree_answers.proofs.Inserted.{position_or_end}
use Rattle.tree_answers.proofs.Places.{find_all, found_passes, place_found}
use Rattle.tree_answers.specs.Away.{is_away}
use Rattle.store_records.specs.Stored.{IsStorable, StaysRight}
use Rattle.store_records.proofs.Acts.{acts_keep_storable}
use Rattle.store_acts.specs.Acts.{act_done}
use Rattle.store_acts.specs.Sound.{IsAct}
use Rattle.store_acts.specs.declared.act.Act.TheVariants.{Give}
use Rattle.store_state.specs.Giving.{content_given as store_given, held_given, give_outcome}
use Rattle.store_state.specs.Outcomes.{Outcome, applied_before, fresh, give_applied, not_fresh, now_done, unless_before}
use Rattle.store_state.specs.State.{is_here, is_gone, is_of, is_server, is_writable, held_so, held_noted, record_of, records_of, slot_so, unless_gone, with_held, with_record}
use Rattle.store_state.specs.declared.done.Done.{Done}
use Rattle.store_state.specs.declared.state.Holding.{Holding}
use Rattle.store_state.specs.declared.state.Stay.{Stay}
use Rattle.store_state.specs.declared.state.Stay.TheVariants.{Writable, Clone, Leaving, Arriving, Gone}
use Rattle.store_state.specs.declared.state.StoreState.{StoreState}
use Rattle.store_laws.specs.KeptGives.{IsNewGive}
use Rattle.store_laws.specs.TreeKeeping.{KeepsOf, gone_from, if_at, if_gone, if_here, left_for}
use Rattle.store_laws.proofs.Called.{same_id}
use Rattle.store_laws.proofs.KeptRows.{noted_slots, not_gone, IsPut, put_found, put_others, put_part}
use Rattle.store_laws.proofs.Slots.{Table, changes_one, changes_then}
use Rattle.store_laws.proofs.KeptSteps.{IsPart, part_of, keeps_parts, parts_step, held_here, not_server}
use Rattle.run_rules.specs.Kept.{content_given, takes_gifts, tree_given}
use Rattle.run_stores.specs.Keeping.{GivesAreKept, IsOf, StandsFor}
use Rattle.message_types.specs.Soundness.{PiecesRise}
use Rattle.run_stores.proofs.Alike.{gives_are_alike}
use Rattle.run_stores.proofs.Notes.{none_held, record_noted}

-- of a fileset that isn't there a store has nothing, where none moved away
left_some : (server : ServerId) (holding : Holding) (stay : Stay) → holding.stay ≡ stay → is_gone stay ≡ true →
    if_gone server holding ≡ None → ⊥
left_some server holding Writable e g n = absurd (cc)
left_some server holding Clone e g n = absurd (cc)
left_some server holding (Leaving to ship) e g n = absurd (cc)
left_some server holding (Arriving from ship parts) e g n = absurd (cc)
left_some server holding (Gone to) e g n =
    let some : if_gone server holding ≡ Some (gone_from server holding.fileset to) =
    ap (λ s. option_map (gone_from server holding.fileset) (left_for s)) e in
    let clash : Some (gone_from server holding.fileset to) ≡ None = sym some ∙ n in absurd (cc)

here_some : (holding : Holding) → is_here holding.stay ≡ true → if_here holding ≡ None → ⊥
here_some holding h n =
    let some : if_here holding ≡ Some holding.fileset = ap (λ b. if b then Some holding.fileset else None) h in
    let clash : Some holding.fileset ≡ None = sym some ∙ n in absurd (cc)

pub none_there : (tree : Tree) (state : StoreState) (id : FilesetId) → KeepsOf tree state → tree.away ≡ [] →
    find (has_id id) tree.filesets ≡ None → held_so (is_of id) state.slots ≡ None
none_there tree state id k away none = by (held_so (is_of id) state.slots) refl
  where
    by : (found : Option Holding) → held_so (is_of id) state.slots ≡ found → found ≡ None
    by None e = refl
    by (Some holding) e =
        test (is_here holding.stay) (is_gone holding.stay) refl refl (k.still id holding e)
      where
        test : (b c : Bool) → is_here holding.stay ≡ b → is_gone holding.stay ≡ c → (b || c) ≡ true →
            Some holding ≡ None
        test true c h g s =
            absurd (here_some holding h (sym (ap (option_and_then if_here) e) ∙ k.filesets id
            ∙ ap (option_and_then (if_at state.server)) none))
        test false true h g s =
            absurd (left_some state.server holding holding.stay refl g
            (sym (ap (option_and_then (if_gone state.server)) e) ∙ k.records id
            ∙ ap (λ (l : List Away). find (is_away state.server id) l) away))
        test false false h g s = absurd (cc)

-- a fileset after a give-back
abbrev fileset_given : Fileset → Fid → (Content → Content) → Fileset
fileset_given fileset fid change =
    if not fileset.read_only && is_file_at fileset fid then changed fileset fid.anode change else fileset

given_same : (fileset : Fileset) (fid : Fid) (change : Content → Content) →
    ((fileset_given fileset fid change).id ≡ fileset.id) × ((fileset_given fileset fid change).server ≡ fileset.server)
    × ((fileset_given fileset fid change).moves ≡ fileset.moves)
unfolding updated
given_same fileset fid change = by (not fileset.read_only && is_file_at fileset fid)
  where
    by : (b : Bool) → ((if b then changed fileset fid.anode change else fileset).id ≡ fileset.id)
        × ((if b then changed fileset fid.anode change else fileset).server ≡ fileset.server)
        × ((if b then changed fileset fid.anode change else fileset).moves ≡ fileset.moves)
    by true = (refl, refl, refl)
    by false = (refl, refl, refl)

-- the tree then
takes_of : (tree : Tree) (fid : Fid) (found : Option Fileset) → find (has_id fid.fileset) tree.filesets ≡ found →
    takes_gifts tree fid ≡ option_map_or (λ fileset. not fileset.read_only && is_file_at fileset fid) found false
takes_of tree fid found e =
    ap (λ (o : Option Fileset). option_map_or (λ fileset. not fileset.read_only && is_file_at fileset fid) o false) e

abbrev tree_if : Bool → Tree → Fid → (Content → Content) → Tree
tree_if b tree fid change =
    if b then record tree {
      filesets = changed_at tree.filesets (place_with_id tree.filesets fid.fileset)
          (λ fileset. changed fileset fid.anode change);
    }
    else tree

given_tree : (tree : Tree) (fid : Fid) (pieces : List Piece) (given : Option ℕ) →
    tree_given tree fid pieces given ≡ tree_if (takes_gifts tree fid) tree fid (content_given pieces given)
unfolding tree_given
given_tree tree fid pieces given = refl

rest_if : (b : Bool) (tree : Tree) (fid : Fid) (change : Content → Content) →
    ((tree_if b tree fid change).roster ≡ tree.roster) × ((tree_if b tree fid change).servers ≡ tree.servers)
    × ((tree_if b tree fid change).away ≡ tree.away) × ((tree_if b tree fid change).locks ≡ tree.locks)
    × ((tree_if b tree fid change).opens ≡ tree.opens)
rest_if true tree fid change = (refl, refl, refl, refl, refl)
rest_if false tree fid change = (refl, refl, refl, refl, refl)

given_rest : (tree : Tree) (fid : Fid) (pieces : List Piece) (given : Option ℕ) →
    ((tree_given tree fid pieces given).roster ≡ tree.roster)
    × ((tree_given tree fid pieces given).servers ≡ tree.servers)
    × ((tree_given tree fid pieces given).away ≡ tree.away) × ((tree_given tree fid pieces given).locks ≡ tree.locks)
    × ((tree_given tree fid pieces given).opens ≡ tree.opens)
unfolding tree_given
given_rest tree fid pieces given = rest_if (takes_gifts tree fid) tree fid (content_given pieces given)

abbrev its_place : Tree → Fileset → ℕ
its_place tree fileset = prefix_len (λ x. not (has_id fileset.id x)) tree.filesets

tree_put : (tree : Tree) (fid : Fid) (change : Content → Content) (fileset : Fileset) →
    fid.fileset ≡ fileset.id → find (has_id fileset.id) tree.filesets ≡ Some fileset →
    IsPut tree (tree_if (not fileset.read_only && is_file_at fileset fid) tree fid change) (its_place tree fileset)
    fileset (fileset_given fileset fid change)
tree_put tree fid change fileset its found =
    record {
      there = there;
      filesets = by (not fileset.read_only && is_file_at fileset fid);
      away = (rest_if (not fileset.read_only && is_file_at fileset fid) tree fid change).2;
      id = same.0;
      server = same.1;
      moves = same.2;
    }
  where
    same : ((fileset_given fileset fid change).id ≡ fileset.id)
        × ((fileset_given fileset fid change).server ≡ fileset.server)
        × ((fileset_given fileset fid change).moves ≡ fileset.moves)
    same = given_same fileset fid change

    there : slice_get tree.filesets (its_place tree fileset) ≡ Some fileset
    there = sym (place_found (has_id fileset.id) tree.filesets) ∙ found

    by : (b : Bool) → (tree_if b tree fid change).filesets
        ≡ slice_set tree.filesets (its_place tree fileset) (if b then changed fileset fid.anode change else fileset)
    by true =
        ap (λ i. changed_at tree.filesets i (λ f. changed f fid.anode change))
        (ap (place_with_id tree.filesets) its ∙ position_or_end (has_id fileset.id) tree.filesets)
        ∙ sym (found_changed tree.filesets (its_place tree fileset) fileset (changed fileset fid.anode change)
        (λ f. changed f fid.anode change) (sym there) refl)
    by false = sym (found_same tree.filesets (its_place tree fileset) fileset (sym there))

pub given_put : (tree : Tree) (fid : Fid) (pieces : List Piece) (given : Option ℕ) (fileset : Fileset) →
    fid.fileset ≡ fileset.id → find (has_id fileset.id) tree.filesets ≡ Some fileset →
    IsPut tree (tree_given tree fid pieces given) (its_place tree fileset) fileset
    (fileset_given fileset fid (content_given pieces given))
given_put tree fid pieces given fileset its found =
    let takes = takes_of tree fid (Some fileset) (ap (λ i. find (has_id i) tree.filesets) its ∙ found) in
    let same : tree_given tree fid pieces given
    ≡ tree_if (not fileset.read_only && is_file_at fileset fid) tree fid (content_given pieces given) =
    given_tree tree fid pieces given ∙ ap (λ b. tree_if b tree fid (content_given pieces given)) takes in
    subst (λ (t : Tree). IsPut tree t (its_place tree fileset) fileset
    (fileset_given fileset fid (content_given pieces given))) (sym same)
    (tree_put tree fid (content_given pieces given) fileset its found)

pub given_none : (tree : Tree) (fid : Fid) (pieces : List Piece) (given : Option ℕ) →
    find (has_id fid.fileset) tree.filesets ≡ None → tree_given tree fid pieces given ≡ tree
given_none tree fid pieces given none =
    given_tree tree fid pieces given
    ∙ ap (λ b. tree_if b tree fid (content_given pieces given)) (takes_of tree fid None none)

-- the store then
abbrev given_slots : Table → Fid → List Piece → Option ℕ → Table
given_slots slots fid pieces given =
    changed_at slots (slot_so (is_of fid.fileset) slots) (option_map (held_given fid pieces given))

abbrev give_slots : Table → HostId → ℕ → Fid → List Piece → Option ℕ → Table
give_slots slots host number fid pieces given =
    noted_slots (given_slots slots fid pieces given) fid.fileset host (give_applied number)

new_give : (state : StoreState) (id : FilesetId) (holding : Holding) (host : HostId) (number : ℕ) →
    held_so (is_of id) state.slots ≡ Some holding → is_server id ≡ false → is_gone holding.stay ≡ false →
    IsNewGive state id host number → applied_before state id host number ≡ None
new_give state id holding host number e server gone new =
    ap (λ o. option_map_or (λ records.
    if nat_lt (record_of records host).give number then None else Some (not_fresh Accepted)) o
    (Some (not_fresh (Refused NoFileset)))) there
    ∙ ap (λ b. if b then None else Some (not_fresh Accepted)) low
  where
    there : records_of state id ≡ Some holding.records
    there = ap (λ b. if b then Some state.records else option_and_then unless_gone (held_so (is_of id) state.slots)) server
        ∙ ap (option_and_then unless_gone) e ∙ ap (λ b. if b then None else Some holding.records) gone

    low : nat_lt (record_of holding.records host).give number ≡ true
    low = let below = new holding.records there in grind (arith, common_steps, below)

give_done : (state : StoreState) (holding : Holding) (host : HostId) (number : ℕ) (fid : Fid) (pieces : List Piece)
    (given : Option ℕ) → held_so (is_of fid.fileset) state.slots ≡ Some holding → is_server fid.fileset ≡ false →
    is_gone holding.stay ≡ false → IsNewGive state fid.fileset host number →
    act_done state (Give host number fid pieces given)
    ≡ fresh Accepted (record state { slots = give_slots state.slots host number fid pieces given })
unfolding act_done give_outcome
give_done state holding host number fid pieces given e server gone new =
    let before = new_give state fid.fileset holding host number e server gone new in
    rw before (ap (λ b. fresh Accepted (
    if b then record (with_held state (slot_so (is_of fid.fileset) state.slots) (held_given fid pieces given)) {
      records = changed_at state.records host.0 (give_applied number);
    }
    else record state { slots = give_slots state.slots host number fid pieces given })) server)

abbrev held_if : Bool → Fid → (Content → Content) → Holding → Holding
held_if b fid change h = if b then record h { fileset = changed h.fileset fid.anode change } else h

given_id : (fid : Fid) (pieces : List Piece) (given : Option ℕ) (any : FilesetId) (h : Holding) →
    is_of any (held_given fid pieces given h) ≡ is_of any h
unfolding updated
given_id fid pieces given any h = by (is_writable h.stay && is_file_at h.fileset fid)
  where
    by : (b : Bool) → is_of any (held_if b fid (store_given pieces given) h) ≡ is_of any h
    by true = refl
    by false = refl

stay_if : (b : Bool) (fid : Fid) (change : Content → Content) (h : Holding) → (held_if b fid change h).stay ≡ h.stay
stay_if true fid change h = refl
stay_if false fid change h = refl

fileset_if : (b : Bool) (fid : Fid) (change : Content → Content) (h : Holding) →
    (held_if b fid change h).fileset ≡ (if b then changed h.fileset fid.anode change else h.fileset)
fileset_if true fid change h = refl
fileset_if false fid change h = refl

stay_writable : (state : StoreState) (fileset : Fileset) (stay : Stay) → StaysRight state fileset stay →
    is_here stay ≡ true → is_writable stay ≡ not fileset.read_only
stay_writable state fileset Writable r h = sym (ap not r.1)
stay_writable state fileset Clone r h = sym (ap not r.1)
stay_writable state fileset (Leaving to ship) r h = absurd (cc)
stay_writable state fileset (Arriving from ship parts) r h = absurd (cc)
stay_writable state fileset (Gone to) r h = absurd (cc)

-- the fileset that a store holds has what the tree's has then
held_is : (state : StoreState) (fid : Fid) (pieces : List Piece) (given : Option ℕ) (fileset : Fileset)
    (holding : Holding) → PiecesRise pieces → StaysRight state holding.fileset holding.stay →
    is_here holding.stay ≡ true → holding.fileset ≡ fileset →
    (held_given fid pieces given holding).fileset
    ≡ fileset_given fileset fid (content_given pieces given)
held_is state fid pieces given fileset holding rise right here same =
    fileset_if (is_writable holding.stay && is_file_at holding.fileset fid) fid (store_given pieces given)
    holding
    ∙ ap (λ b. if b && is_file_at holding.fileset fid
    then changed holding.fileset fid.anode (store_given pieces given) else holding.fileset)
    (stay_writable state holding.fileset holding.stay right here)
    ∙ ap (λ (f : Fileset). fileset_given f fid (store_given pieces given)) same
    ∙ ap (λ change. fileset_given fileset fid change) (λ i content. gives_are_alike pieces given content rise i)

-- a fileset that is found is the server's
pub its_own : (server : ServerId) (tree : Tree) (id : FilesetId) (fileset : Fileset) → IsOf server tree →
    find (has_id id) tree.filesets ≡ Some fileset → fileset.server ≡ server
its_own server tree id fileset o found =
    same_server fileset.server server
    (find_all (has_id id) (λ (f : Fileset). f.server.0 == server.0) tree.filesets fileset found o.own)

give_there : (tree : Tree) (state : StoreState) (host : HostId) (number : ℕ) (fid : Fid) (pieces : List Piece)
    (given : Option ℕ) (fileset : Fileset) → StandsFor tree state → IsNewGive state fid.fileset host number → PiecesRise pieces →
    IsAct state.roster state.server (Give host number fid pieces given) → fid.fileset ≡ fileset.id →
    find (has_id fileset.id) tree.filesets ≡ Some fileset →
    KeepsOf (tree_given tree fid pieces given) (act_done state (Give host number fid pieces given)).state
give_there tree state host number fid pieces given fileset s new rise fits its known =
    let k = s.keeps in
    let ps = pieces in
    let next_tree = tree_given tree fid pieces given in
    let at = its_own state.server tree fileset.id fileset s.is_of known in
    let (holding, h) = held_here tree state fileset k known at in
    let held : held_so (is_of fid.fileset) state.slots ≡ Some holding =
    ap (λ i. held_so (is_of i) state.slots) its ∙ h.held in
    let server = not_server state fid.fileset holding k.storable held in
    let each = k.storable.each (slot_so (is_of fileset.id) state.slots) holding h.held in
    let put = given_put tree fid pieces given fileset its known in
    let after = fileset_given fileset fid (content_given pieces given) in
    let same : (held_given fid ps given holding).fileset ≡ after =
    held_is state fid pieces given fileset holding rise each.stay h.here h.same in
    let stays : (held_given fid ps given holding).stay ≡ holding.stay =
    stay_if (is_writable holding.stay && is_file_at holding.fileset fid) fid (store_given ps given) holding in
    let does = give_done state holding host number fid ps given held server (not_gone holding.stay h.here) new in
    let first = changes_one state.slots fid.fileset holding (held_given fid ps given) (given_id fid ps given) held in
    let second = changes_one (given_slots state.slots fid ps given) fid.fileset
    (held_given fid ps given holding) (held_noted host (give_applied number)) (λ any h. refl) first.here in
    let changes = changes_then state.slots (given_slots state.slots fid ps given)
    (give_slots state.slots host number fid ps given) fid.fileset _ _ first second in
    let next = held_noted host (give_applied number) (held_given fid ps given holding) in
    let found = put_found tree next_tree (its_place tree fileset) fileset after s.formed put in
    let part : IsPart next_tree state.server fid.fileset (Some next) =
    subst (λ i. IsPart next_tree state.server i (Some next)) (sym its)
    (put_part tree next_tree state fileset after holding next k found put.away (put.server ∙ at) h stays same) in
    let storable = acts_keep_storable state (Give host number fid ps given) k.storable fits tt in
    let rest = given_rest tree fid pieces given in
    let kept : KeepsOf next_tree (record state { slots = give_slots state.slots host number fid ps given }) =
    keeps_parts next_tree (record state { slots = give_slots state.slots host number fid ps given })
    (subst IsStorable (ap (λ (o : Outcome). o.state) does) storable) (k.roster ∙ sym rest.0)
    (ap (λ rooms. room_of rooms state.server) rest.1 ∙ k.room)
    (parts_step tree next_tree state.server state.slots (give_slots state.slots host number fid ps given) fid.fileset _
    (λ id. part_of tree state id k) changes
    (λ other apart. put_others tree next_tree (its_place tree fileset) fileset after state.server put other
    (ap (λ (i : FilesetId). other.0 == i.0) (sym its) ∙ apart))
    part) in
    subst (KeepsOf next_tree) (sym (ap (λ (o : Outcome). o.state) does)) kept

-- of a fileset that isn't there nothing changes
give_nowhere : (tree : Tree) (state : StoreState) (host : HostId) (number : ℕ) (fid : Fid) (pieces : List Piece)
    (given : Option ℕ) → KeepsOf tree state → IsAct state.roster state.server (Give host number fid pieces given) →
    held_so (is_of fid.fileset) state.slots ≡ None →
    KeepsOf tree (act_done state (Give host number fid pieces given)).state
unfolding act_done give_outcome
give_nowhere tree state host number fid pieces given k fits none =
    by (applied_before state fid.fileset host number)
    (acts_keep_storable state (Give host number fid pieces given) k.storable fits tt)
  where
    same : with_held state (slot_so (is_of fid.fileset) state.slots) (held_given fid pieces given) ≡ state
    same = ap (λ (t : Table). record state { slots = t })
        (none_held state.slots (slot_so (is_of fid.fileset) state.slots) (held_given fid pieces given) none)

    next : StoreState → StoreState
    next s = with_record s fid.fileset host (give_applied number)

    by : (before : Option Done) →
        IsStorable (unless_before before state (fresh Accepted
        (next (with_held state (slot_so (is_of fid.fileset) state.slots) (held_given fid pieces given))))).state →
        KeepsOf tree (unless_before before state (fresh Accepted
        (next (with_held state (slot_so (is_of fid.fileset) state.slots) (held_given fid pieces given))))).state
    by (Some done) storable = k
    by None storable =
        subst (λ s. KeepsOf tree (next s)) (sym same)
        (record_noted tree state fid.fileset host (give_applied number) k
        (subst (λ s. IsStorable (next s)) same storable))

give_keeps : (tree : Tree) (state : StoreState) (host : HostId) (number : ℕ) (fid : Fid) (pieces : List Piece)
    (given : Option ℕ) → StandsFor tree state → IsNewGive state fid.fileset host number → PiecesRise pieces →
    IsAct state.roster state.server (Give host number fid pieces given) →
    KeepsOf (tree_given tree fid pieces given) (act_done state (Give host number fid pieces given)).state
give_keeps tree state host number fid pieces given s new rise fits = by (find (has_id fid.fileset) tree.filesets) refl
  where
    by : (found : Option Fileset) → find (has_id fid.fileset) tree.filesets ≡ found →
        KeepsOf (tree_given tree fid pieces given)
        (act_done state (Give host number fid pieces given)).state
    by None e =
        subst (λ t. KeepsOf t (act_done state (Give host number fid pieces given)).state)
        (sym (given_none tree fid pieces given e))
        (give_nowhere tree state host number fid pieces given s.keeps fits
        (none_there tree state fid.fileset s.keeps s.is_of.unmoved e))
    by (Some fileset) e =
        let its = sym (same_id fileset.id fid.fileset (found_passes (has_id fid.fileset) tree.filesets fileset e)) in
        give_there tree state host number fid pieces given fileset s new rise fits its
        (sym (ap (λ i. find (has_id i) tree.filesets) its) ∙ e)

give_is_done : (tree : Tree) (state : StoreState) (host : HostId) (number : ℕ) (fid : Fid) (pieces : List Piece)
    (given : Option ℕ) (fileset : Fileset) → StandsFor tree state → IsNewGive state fid.fileset host number →
    find (has_id fid.fileset) tree.filesets ≡ Some fileset →
    (act_done state (Give host number fid pieces given)).done ≡ now_done Accepted
give_is_done tree state host number fid pieces given fileset s new e =
    let its = sym (same_id fileset.id fid.fileset (found_passes (has_id fid.fileset) tree.filesets fileset e)) in
    let known = sym (ap (λ i. find (has_id i) tree.filesets) its) ∙ e in
    let at = its_own state.server tree fileset.id fileset s.is_of known in
    let (holding, h) = held_here tree state fileset s.keeps known at in
    let held : held_so (is_of fid.fileset) state.slots ≡ Some holding =
    ap (λ i. held_so (is_of i) state.slots) its ∙ h.held in
    let server = not_server state fid.fileset holding s.keeps.storable held in
    ap (λ (o : Outcome). o.done)
    (give_done state holding host number fid pieces given held server (not_gone holding.stay h.here) new)

-- all are at the server still
own_if : (b : Bool) (server : ServerId) (tree : Tree) (fid : Fid) (change : Content → Content) →
    list_all (λ (f : Fileset). f.server.0 == server.0) tree.filesets ≡ true →
    list_all (λ (f : Fileset). f.server.0 == server.0) (tree_if b tree fid change).filesets ≡ true
unfolding updated
own_if false server tree fid change h = h
own_if true server tree fid change h = by tree.filesets (place_with_id tree.filesets fid.fileset) ∙ h
  where
    at_it : Fileset → Bool
    at_it f = f.server.0 == server.0

    same : (f : Fileset) → at_it (changed f fid.anode change) ≡ at_it f
    same f = refl

    by : (fs : List Fileset) (i : ℕ) →
        list_all (λ (f : Fileset). f.server.0 == server.0) (changed_at fs i (λ f. changed f fid.anode change))
        ≡ list_all (λ (f : Fileset). f.server.0 == server.0) fs
    by [] i = refl
    by (f ∷ fs) zero = ap (λ b. b && list_all (λ (f : Fileset). f.server.0 == server.0) fs) (same f)
    by (f ∷ fs) (suc i) = ap (λ b. (f.server.0 == server.0) && b) (by fs i)

given_is_of : (server : ServerId) (tree : Tree) (fid : Fid) (pieces : List Piece) (given : Option ℕ) →
    IsOf server tree → IsOf server (tree_given tree fid pieces given)
unfolding tree_given
given_is_of server tree fid pieces given o =
    let rest = rest_if (takes_gifts tree fid) tree fid (content_given pieces given) in
    record {
      own = own_if (takes_gifts tree fid) server tree fid (content_given pieces given) o.own;
      unmoved = rest.2 ∙ o.unmoved;
      locks = rest.3 ∙ o.locks;
      opens = rest.4 ∙ o.opens;
    }

pub gives_are_kept : GivesAreKept
gives_are_kept = record { is_of = given_is_of; keeps = give_keeps; done = give_is_done }
