-- A run is a history that stores can keep.
use Rattle.std.proofs.Common.{◌≡◌, ◌≤◌, ℕ, ◌==◌, nat_le, ◌&&◌, not, Bool, true, false, List, [], ◌∷◌, length, Option, Some, None, refl, sym, subst, arith, rules}
use Rattle.std.specs.Prelude.{IfSome, if◌then◌else◌}
use Rattle.std.specs.List.{find}
use Rattle.std.specs.Option.{option_map, option_map_or, option_and_then}
use Rattle.std.proofs.lemmas.Bool.{and_from, and_parts, eqb-true, leb-true}
use Rattle.base_types.specs.Ids.{same_fid}
use Rattle.base_types.specs.declared.ids.Fid.{Fid}
use Rattle.base_types.specs.declared.ids.HostId.{HostId}
use Rattle.base_types.specs.declared.limits.TheConstants.{FILE_BYTES_MAX}
use Rattle.base_types.specs.declared.span.Span.{Span}
use Rattle.tree_calls.specs.declared.call.Call.{Call as CallOf}
use Rattle.tree_calls.specs.declared.call.Call.TheVariants.{Write, MoveFileset}
use Rattle.tree_calls.specs.declared.entry.Entry.{Entry}
use Rattle.tree_calls.specs.declared.entry.Entry.TheVariants.{Call as Called, Stored, Down, Left}
use Rattle.tree_calls.specs.declared.reply.Reply.{Reply}
use Rattle.tree_calls.specs.declared.reply.Reply.TheVariants.{Ok as Accepted}
use Rattle.tree_calls.specs.declared.roster.Roster.{Roster}
use Rattle.tree_objects.specs.declared.content.Content.{Content}
use Rattle.tree_objects.specs.declared.content.Content.TheVariants.{Dir, File}
use Rattle.tree_objects.specs.Files.{present_length}
use Rattle.tree_objects.specs.Sound.{is_sound}
use Rattle.tree_objects.specs.Stores.{is_storable, is_storable_length}
use Rattle.tree_filesets.specs.declared.fileset.Fileset.{Fileset}
use Rattle.tree_filesets.specs.Walk.{object_at, unique_at}
use Rattle.tree_filesets.specs.WellFormed.{IsWellFormed as IsWellFormedFileset}
use Rattle.tree_saving.specs.Saving.{fid_named}
use Rattle.tree_answers.specs.declared.tree.Tree.{Tree}
use Rattle.tree_answers.specs.Finding.{has_id}
use Rattle.tree_answers.specs.Histories.{IsHistory, after_entry}
use Rattle.tree_answers.specs.Stores.{content_in, may_store, stored_tree}
use Rattle.tree_answers.specs.WellFormed.{AreWellFormed, IsWellFormed}
use Rattle.tree_answers.proofs.Kept.{formed_entry, tested_object}
use Rattle.message_types.specs.Soundness.{Each, IsHost}
use Rattle.service_plain.specs.Played as plain
use Rattle.store_laws.specs.HistoryLaws.{IsGiven}
use Rattle.store_laws.specs.Shape.{are_numbered, has_number, is_due, next_number, rests, stores_stand, written_by}
use Rattle.store_laws.specs.Happening.{has_moved, lefts_stand}
use Rattle.service_stores.specs.Laws.{RunsMayHappen}
use Rattle.service_stores.proofs.Given.{IsCalled, calls_are_made}
use Rattle.service_stores.proofs.PlayedLists.{each_one}

-- the plain engine's words are those of the stores
numbered_same : (host : HostId) (k : ℕ) (entries : List Entry) → plain.are_numbered host k entries ≡ true →
    are_numbered host k entries ≡ true
numbered_same host k [] h = refl
numbered_same host k (Called caller n call reply ∷ entries) h =
    let entry = Called caller n call reply in
    let parts = and_parts (has_number host k entry) (plain.are_numbered host (next_number host k entry) entries) h in
    and_from (has_number host k entry) (are_numbered host (next_number host k entry) entries) parts.0
    (numbered_same host (next_number host k entry) entries parts.1)
numbered_same host k (Stored by fid spans len ∷ entries) h = numbered_same host k entries h
numbered_same host k (Down by server ∷ entries) h = numbered_same host k entries h
numbered_same host k (Left server id ∷ entries) h = numbered_same host k entries h

lefts_same : (due : Bool) (entries : List Entry) → plain.lefts_stand due entries ≡ true →
    lefts_stand due entries ≡ true
lefts_same due [] h = h
lefts_same due (Left server id ∷ entries) h =
    let parts = and_parts due (plain.lefts_stand false entries) h in
    and_from due (lefts_stand false entries) parts.0 (lefts_same false entries parts.1)
lefts_same due (Called host k call reply ∷ entries) h =
    let parts = and_parts (not due) (plain.lefts_stand (plain.has_moved call reply) entries) h in
    let same : plain.lefts_stand (has_moved call reply) entries ≡ true =
    subst (λ moved. plain.lefts_stand moved entries ≡ true) (moved call reply) parts.1 in
    and_from (not due) (lefts_stand (has_moved call reply) entries) parts.0
    (lefts_same (has_moved call reply) entries same)
  where
    moved : (call : CallOf) (reply : Reply) → plain.has_moved call reply ≡ has_moved call reply
    moved (MoveFileset server fileset to) Accepted = refl
    moved call reply = refl
lefts_same due (Stored host fid spans len ∷ entries) h =
    let parts = and_parts (not due) (plain.lefts_stand false entries) h in
    and_from (not due) (lefts_stand false entries) parts.0 (lefts_same false entries parts.1)
lefts_same due (Down host server ∷ entries) h =
    let parts = and_parts (not due) (plain.lefts_stand false entries) h in
    and_from (not due) (lefts_stand false entries) parts.0 (lefts_same false entries parts.1)

due_same : (written : Option (HostId × Fid)) (host : HostId) (fid : Fid) → plain.is_due written host fid ≡ true →
    is_due written host fid ≡ true
due_same None host fid h = h
due_same (Some written) host fid h = h

written_same : (tree : Tree) (host : HostId) (k : ℕ) (call : CallOf) (reply : Reply) →
    plain.written_by tree (Called host k call reply) ≡ written_by tree (Called host k call reply)
written_same tree host k (Write place from bytes) reply = refl
written_same tree host k call reply = refl

stand_same : (written : Option (HostId × Fid)) (tree : Tree) (entries : List Entry) →
    plain.stores_stand written tree entries ≡ true → stores_stand written tree entries ≡ true
stand_same written tree [] h = h
stand_same written tree (Stored host fid spans len ∷ entries) h =
    let after = stored_tree tree host fid spans len in
    let parts = and_parts (plain.is_due written host fid && not (rests tree)) (plain.stores_stand None after entries) h
    in
    let due = (and_parts (plain.is_due written host fid) (not (rests tree)) parts.0).0 in
    and_from (is_due written host fid) (stores_stand None after entries) (due_same written host fid due)
    (stand_same None after entries parts.1)
stand_same written tree (Called host k call reply ∷ entries) h =
    let entry = Called host k call reply in
    let after = after_entry tree entry in
    let parts = and_parts (rests tree) (plain.stores_stand (plain.written_by tree entry) after entries) h in
    let same : plain.stores_stand (written_by tree entry) after entries ≡ true =
    subst (λ w. plain.stores_stand w after entries ≡ true) (written_same tree host k call reply) parts.1 in
    and_from (rests tree) (stores_stand (written_by tree entry) after entries) parts.0
    (stand_same (written_by tree entry) after entries same)
stand_same written tree (Down host server ∷ entries) h =
    let after = after_entry tree (Down host server) in
    let parts = and_parts (rests tree) (plain.stores_stand None after entries) h in
    and_from (rests tree) (stores_stand None after entries) parts.0 (stand_same None after entries parts.1)
stand_same written tree (Left server id ∷ entries) h =
    let after = after_entry tree (Left server id) in
    let parts = and_parts (rests tree) (plain.stores_stand None after entries) h in
    and_from (rests tree) (stores_stand None after entries) parts.0 (stand_same None after entries parts.1)

-- what is stored lies within a file
found_formed : (filesets : List Fileset) (test : Fileset → Bool) (fileset : Fileset) →
    find test filesets ≡ Some fileset → AreWellFormed filesets → IsWellFormedFileset fileset
found_formed [] test fileset e w = absurd (search (rules, e))
found_formed (first ∷ filesets) test fileset e w =
    by (test first) e (λ k. found_formed filesets test fileset k w.1)
  where
    by : (v : Bool) → (if v then Some first else find test filesets) ≡ Some fileset →
        (find test filesets ≡ Some fileset → IsWellFormedFileset fileset) → IsWellFormedFileset fileset
    by true k rest = let same : first ≡ fileset = cc in subst IsWellFormedFileset same w.0
    by false k rest = rest k

length_within : (host : HostId) (spans : List Span) (len : Option ℕ) (content : Content) →
    is_storable host spans len content ≡ true → is_sound content ≡ true → IfSome len (λ n. n ≤ FILE_BYTES_MAX)
length_within host spans None content h s = tt
length_within host spans (Some n) (Dir entries lists) h s = absurd (search (rules, h))
length_within host spans (Some n) (File list kept unsaved len) h s =
    let most = present_length kept len in
    let storable : is_storable_length host kept len (Some n) ≡ true = (and_parts _ _ h).0 in
    let above = (and_parts (nat_le (length kept) n && nat_le n most) _ storable).0 in
    let below = (and_parts (nat_le (length kept) n) (nat_le n most) above).1 in
    let sound = (and_parts _ _ (and_parts _ _ (and_parts _ _ s).0).0).0 in
    let within = (and_parts (nat_le (length kept) FILE_BYTES_MAX) (nat_le most FILE_BYTES_MAX) sound).1 in
    let a = leb-true n most below in
    let b = leb-true most FILE_BYTES_MAX within in
    omega (arith, a, b)

stored_within : (tree : Tree) (host : HostId) (fid : Fid) (spans : List Span) (len : Option ℕ) → IsWellFormed tree →
    may_store tree host fid spans len ≡ true → IfSome len (λ n. n ≤ FILE_BYTES_MAX)
stored_within tree host fid spans len w may = in_tree (find (has_id fid.fileset) tree.filesets) refl may
  where
    in_tree : (found : Option Fileset) → find (has_id fid.fileset) tree.filesets ≡ found →
        option_map_or (is_storable host spans len) (option_and_then (λ fileset. content_in fileset fid) found) false
        ≡ true → IfSome len (λ n. n ≤ FILE_BYTES_MAX)
    in_tree None e h = absurd (search (rules, h))
    in_tree (Some fileset) e h =
        let formed = found_formed tree.filesets (has_id fid.fileset) fileset e w.filesets in
        let object = tested_object (unique_at fileset.anodes fid.anode == fid.unique)
        (object_at fileset.anodes fid.anode) (is_storable host spans len) h in
        length_within host spans len object.0.content object.2 (formed.sound fid.anode object.0 object.1)

spans_within : (spans : List Span) → Each (λ span. (span.from ≤ span.to) × (span.to ≤ FILE_BYTES_MAX)) spans
spans_within spans =
    each_one (λ (span : Span). (span.from ≤ span.to) × (span.to ≤ FILE_BYTES_MAX)) spans
    (λ span. (span.ordered, span.within))

-- the host of what was just written is declared
abbrev IsWriter : Roster → Option (HostId × Fid) → Type 0
IsWriter roster written = IfSome written (λ w. IsHost roster w.0)

due_host : (roster : Roster) (written : Option (HostId × Fid)) (host : HostId) (fid : Fid) →
    is_due written host fid ≡ true → IsWriter roster written → IsHost roster host
due_host roster None host fid h w = absurd (search (rules, h))
due_host roster (Some written) host fid h w =
    let same : host.0 ≡ written.0.0 =
    eqb-true host.0 written.0.0 (and_parts (host.0 == written.0.0) (same_fid fid written.1) h).0 in
    subst (λ n. n ≤ length roster.hosts) (sym same) w

written_host : (roster : Roster) (tree : Tree) (host : HostId) (k : ℕ) (call : CallOf) (reply : Reply) →
    IsHost roster host → IsWriter roster (written_by tree (Called host k call reply))
written_host roster tree host k (Write place from bytes) reply h = by (fid_named tree place)
  where
    by : (o : Option Fid) → IsWriter roster (option_map (λ fid. (host, fid)) o)
    by None = tt
    by (Some fid) = h
written_host roster tree host k call reply h = tt

-- each entry is one that may be given
all_given : (roster : Roster) (written : Option (HostId × Fid)) (tree : Tree) (entries : List Entry) →
    IsWellFormed tree → IsHistory tree entries → stores_stand written tree entries ≡ true → IsWriter roster written →
    Each (IsCalled roster) entries → Each (IsGiven roster) entries
all_given roster written tree [] f l s w c = tt
all_given roster written tree (Called host k call reply ∷ entries) f l s w c =
    let entry = Called host k call reply in
    let parts = and_parts (rests tree) (stores_stand (written_by tree entry) (after_entry tree entry) entries) s in (
      c.0,
      all_given roster (written_by tree entry) (after_entry tree entry) entries
          (formed_entry tree entry f l.0 c.0.1.objects) l.1 parts.1 (written_host roster tree host k call reply c.0.0) c.1,
    )
all_given roster written tree (Stored host fid spans len ∷ entries) f l s w c =
    let entry = Stored host fid spans len in
    let parts = and_parts (is_due written host fid) (stores_stand None (after_entry tree entry) entries) s in (
      (due_host roster written host fid parts.0 w, spans_within spans, stored_within tree host fid spans len f l.0),
      all_given roster None (after_entry tree entry) entries (formed_entry tree entry f l.0 refl) l.1 parts.1 tt c.1,
    )
all_given roster written tree (Down host server ∷ entries) f l s w c =
    let entry = Down host server in
    let parts = and_parts (rests tree) (stores_stand None (after_entry tree entry) entries) s in
    (tt, all_given roster None (after_entry tree entry) entries (formed_entry tree entry f l.0 refl) l.1 parts.1 tt c.1)
all_given roster written tree (Left server id ∷ entries) f l s w c =
    let entry = Left server id in
    let parts = and_parts (rests tree) (stores_stand None (after_entry tree entry) entries) s in
    (tt, all_given roster None (after_entry tree entry) entries (formed_entry tree entry f l.0 refl) l.1 parts.1 tt c.1)

pub runs_may_happen : RunsMayHappen
runs_may_happen script played sound say p =
    let stand = stand_same None played.start played.history p.stores in
    let given = all_given script.roster None played.start played.history p.start.formed p.legal stand tt
    (calls_are_made script played sound say p) in
    record {
      formed = p.start.formed;
      rest = p.start.rest;
      rooms = p.start.rooms;
      legal = p.legal;
      stores = stand;
      numbered = λ host. numbered_same host 1 played.history (p.done.numbered host);
      given = subst (λ roster. Each (IsGiven roster) played.history) (sym p.start.roster) given;
      lefts = lefts_same false played.history p.lefts;
    }
