-- Moves that an earlier run left unfinished are finished.
use Rattle.std.proofs.Common.{◌≡◌, ◌≢◌, ◌≤◌, ◌⊎◌, ℕ, ◌+◌, ◌-◌, ◌==◌, Bool, true, false, ◌&&◌, List, [], ◌∷◌, length, Option, Some, None, inl, inr, refl, sym, ap, ◌∙◌, subst, arith}
use Rattle.std.specs.Prelude.{if◌then◌else◌, option_and_then, slice_get, slice_set}
use Rattle.std.specs.List.{find}
use Rattle.std.specs.Option.{option_map, option_map_or}
use Rattle.std.proofs.lemmas.Bool.Decides.{eqb_tells}
use Rattle.std.proofs.lemmas.Option.{slice_get_within}
use Rattle.base_types.specs.declared.ids.FilesetId.{FilesetId}
use Rattle.base_types.specs.declared.ids.ServerId.{ServerId}
use Rattle.tree_calls.specs.declared.reply.Reply.TheVariants.{Ok as Accepted}
use Rattle.tree_calls.specs.declared.roster.Roster.{Roster}
use Rattle.tree_calls.specs.declared.ship.Mover.{Mover}
use Rattle.tree_objects.specs.declared.content.Anode.{Anode}
use Rattle.tree_objects.proofs.Observed.{and_left, and_right}
use Rattle.store_memory.specs.Sound.{IsMover}
use Rattle.tree_answers.specs.Away.{is_away}
use Rattle.tree_answers.specs.Finding.{has_id}
use Rattle.tree_answers.specs.Moving.{left_tree}
use Rattle.tree_answers.specs.declared.tree.Away.{Away}
use Rattle.tree_answers.specs.declared.tree.Tree.{Tree}
use Rattle.service_starts.proofs.Ended.{none_told, ships_none}
use Rattle.service_starts.proofs.Freed.{Left as LeftParts, free_if, left_parts, record_left}
use Rattle.service_starts.proofs.Replaced.{Goes, Part, all_keep, get_set, get_set_other, length_set, part_gone, part_here, same_fileset}
use Rattle.service_starts.proofs.Sending.{AreTaken, Comes, Going, Leaves, NotDue, Receives, Sends, all_taken, asked_of, leaves_so, none_taken, so_far}
use Rattle.service_starts.specs.FinishLaws.{MovesFinish, ship_told}
use Rattle.service_starts.specs.UnderWay.{IsHeldBy, KeepsUnderWay, KeepUnderWay, is_out, record_so}
use Rattle.store_records.proofs.Acts.{acts_keep_storable}
use Rattle.store_records.specs.Stored.{IsStorable, StaysRight}
use Rattle.store_acts.specs.Acts.{act_done, state_after}
use Rattle.store_acts.specs.Moving.{held_left, left_outcome, with_holding}
use Rattle.store_acts.specs.declared.act.Act.TheVariants.{Left}
use Rattle.store_laws.specs.Founds.{room_in}
use Rattle.store_laws.specs.Moves.{all_parts}
use Rattle.store_state.specs.Outcomes.{Outcome, fresh}
use Rattle.store_state.specs.Sought.{is_due}
use Rattle.store_state.specs.State.{held_at, held_so, is_arriving, is_leaving, is_of, slot_so}
use Rattle.store_state.specs.declared.state.Holding.{Holding}
use Rattle.store_state.specs.declared.state.Stay.{Stay}
use Rattle.store_state.specs.declared.state.Stay.TheVariants.{Writable, Clone, Leaving, Arriving, Gone}
use Rattle.store_state.specs.declared.state.StoreState.{StoreState}
use Rattle.store_laws.proofs.Called.{same_id}
use Rattle.store_laws.proofs.Exact.{held_self}
use Rattle.store_laws.proofs.Keys.{equal_keys, found_passes, same_key}
use Rattle.store_laws.proofs.Slots.{ChangesOne, changes_one, held_passes}
use Rattle.store_laws.specs.TreeKeeping.{fileset_at, gone_from, if_here, record_at}

-- a fileset that is leaving one of the stores
record Starts (tree : Tree) (states : List StoreState) (f : ℕ) (sender : StoreState) (holding : Holding)
    (to : ServerId) (ship : ℕ) : Type 0 where
  all : KeepUnderWay tree states
  there : slice_get states f ≡ Some sender
  leaves : Leaves sender holding to ship

server_place : (tree : Tree) (states : List StoreState) → KeepUnderWay tree states → (a b : ℕ) (s t : StoreState) →
    slice_get states a ≡ Some s → slice_get states b ≡ Some t → s.server.0 ≡ t.server.0 → a ≡ b
server_place tree states all a b s t sa tb same =
    let x = ap (λ (n : ServerId). n.0) (all.own a s sa) in
    let y = ap (λ (n : ServerId). n.0) (all.own b t tb) in
    omega (arith, x, y, same)

-- what the store of its server holds of it is what is leaving
only_sender : (tree : Tree) (states : List StoreState) (f : ℕ) (sender : StoreState) (holding : Holding)
    (to : ServerId) (ship : ℕ) → Starts tree states f sender holding to ship → (from : ServerId) (sent : Holding) →
    from.0 ≡ sender.server.0 → IsHeldBy states from holding.fileset.id sent → sent ≡ holding
only_sender tree states f sender holding to ship s from sent same x =
    let place = server_place tree states s.all x.place f x.state sender x.there s.there
    (ap (λ (n : ServerId). n.0) x.own ∙ same) in
    let both : Some x.state ≡ Some sender = sym x.there ∙ ap (slice_get states) place ∙ s.there in
    let its : x.state ≡ sender = cc in
    let found : Some sent ≡ Some holding =
    sym x.held ∙ ap (λ (n : StoreState). held_so (is_of holding.fileset.id) n.slots) its ∙ s.leaves.held in
    cc

-- where it is leaving for
record Meets (tree : Tree) (states : List StoreState) (f : ℕ) (sender : StoreState) (holding : Holding)
    (to : ServerId) (ship : ℕ) (receiver : StoreState) (come : Holding) : Type 0 where
  place : ℕ
  number : to.0 ≡ place + 1
  apart : f ≢ place
  there : slice_get states place ≡ Some receiver
  server : receiver.server ≡ to
  keeps : KeepsUnderWay tree states receiver
  receives : Receives sender receiver holding come

meets : (tree : Tree) (states : List StoreState) (f : ℕ) (sender : StoreState) (holding : Holding) (to : ServerId)
    (ship : ℕ) → Starts tree states f sender holding to ship →
    (receiver : StoreState) × (come : Holding) × Meets tree states f sender holding to ship receiver come
meets tree states f sender holding to ship s =
    let keep = s.all.keeps f sender s.there in
    let (come, x, more) = keep.leaving holding.fileset.id holding to ship s.leaves.held s.leaves.stay in
    let keeps = s.all.keeps x.place x.state x.there in
    let own = ap (λ (n : ServerId). n.0) (s.all.own f sender s.there) in
    let number = ap (λ (n : ServerId). n.0) (sym x.own ∙ s.all.own x.place x.state x.there) in
    let other = s.leaves.other.2 in
    let inside = slice_get_within states f sender s.there in
    let count = s.all.count in
    let many = ap (λ (r : Roster). length r.capacity) keeps.roster in
    let low : 1 ≤ sender.server.0 = omega (arith, own) in
    let high : sender.server.0 ≤ length x.state.roster.capacity = omega (arith, own, inside, count, many) in (
      x.state,
      come,
      record {
        place = x.place;
        number = number;
        apart = λ e. other (omega (arith, number, own, e));
        there = x.there;
        server = x.own;
        keeps = keeps;
        receives = record {
          storable = keeps.storable;
          held = x.held;
          moves = more;
          other = λ e. other (sym (e ∙ ap (λ (n : ServerId). n.0) x.own));
          roster = keeps.roster ∙ sym keep.roster;
          is_from = record { first = low; last = high };
        };
      },
    )

empty_list : (anodes : List Anode) → length anodes ≡ 0 → anodes ≡ []
empty_list [] e = refl
empty_list (x ∷ xs) e = absurd (omega (arith, e))

-- what came is of this fileset, or nothing is waited for
taken : (tree : Tree) (states : List StoreState) (f : ℕ) (sender : StoreState) (holding : Holding) (to : ServerId)
    (ship : ℕ) (receiver : StoreState) (come : Holding) (mover : Mover) → Starts tree states f sender holding to ship →
    Meets tree states f sender holding to ship receiver come → IsMover sender.roster mover →
    AreTaken sender receiver holding come ship mover
taken tree states f sender holding to ship receiver come mover s m mover_is = by come.stay refl
  where
    sends : Sends sender receiver holding come to ship mover
    sends = record { leaves = s.leaves; receives = m.receives; mover_is = mover_is }

    nothing : NotDue sender.server ship come → AreTaken sender receiver holding come ship mover
    nothing n = none_taken sender receiver holding come to ship mover sends n

    off_server : (from : ServerId) (other parts : ℕ) → come.stay ≡ Arriving from other parts →
        (from.0 == sender.server.0) ≡ false → NotDue sender.server ship come
    off_server from other parts e off at =
        ap (is_due sender.server ship at) e ∙ ap (λ b. (b && (other == ship)) && (parts == at)) off

    off_ship : (from : ServerId) (other parts : ℕ) → come.stay ≡ Arriving from other parts →
        (other == ship) ≡ false → NotDue sender.server ship come
    off_ship from other parts e off at =
        ap (is_due sender.server ship at) e ∙ ap (λ b. ((from.0 == sender.server.0) && b) && (parts == at)) off
        ∙ none (from.0 == sender.server.0) (parts == at)
      where
        none : (a c : Bool) → ((a && false) && c) ≡ false
        none true c = refl
        none false c = refl

    ours : (from : ServerId) (other parts : ℕ) → come.stay ≡ Arriving from other parts →
        from.0 ≡ sender.server.0 → other ≡ ship → Comes sender holding come ship
    ours from other parts e same number =
        let (sent, coming) = m.keeps.arriving holding.fileset.id come from other parts m.receives.held e in
        let its = only_sender tree states f sender holding to ship s from sent same coming.held in
        let server : from ≡ sender.server = ap (λ n. let id : ServerId = record { 0 = n } in id) same in
        let stay : come.stay ≡ Arriving sender.server ship 1 =
        e ∙ ap (λ x. Arriving x other parts) server ∙ ap (λ x. Arriving sender.server x parts) number
        ∙ ap (Arriving sender.server ship) coming.head in
        let stored = m.keeps.storable.each (slot_so (is_of holding.fileset.id) receiver.slots) come m.receives.held in
        let right : StaysRight receiver come.fileset (Arriving sender.server ship 1) =
        subst (StaysRight receiver come.fileset) stay stored.stay in
        record {
          stay = stay;
          none = empty_list come.fileset.anodes right.0.count;
          moves = coming.moves ∙ ap (λ (h : Holding). h.fileset.moves + 1) its;
          name = coming.name ∙ ap (λ (h : Holding). h.fileset.name) its;
          objects = coming.objects ∙ ap (λ (h : Holding). h.fileset.objects) its;
        }

    by : (stay : Stay) → come.stay ≡ stay → AreTaken sender receiver holding come ship mover
    by Writable e = nothing (λ at. ap (is_due sender.server ship at) e)
    by Clone e = nothing (λ at. ap (is_due sender.server ship at) e)
    by (Leaving at sent) e = nothing (λ n. ap (is_due sender.server ship n) e)
    by (Gone at) e = nothing (λ n. ap (is_due sender.server ship n) e)
    by (Arriving from other parts) e =
        elim (eqb_tells from.0 sender.server.0) as (λ _. AreTaken sender receiver holding come ship mover) [
          | inr (off, k) ↦ nothing (off_server from other parts e off)
          | inl (on, same) ↦
              elim (eqb_tells other ship) as (λ _. AreTaken sender receiver holding come ship mover) [
                | inr (off, k) ↦ nothing (off_ship from other parts e off)
                | inl (too, number) ↦
                    all_taken sender receiver holding come to ship mover sends (ours from other parts e same number)
              ]
        ]

-- what the stores keep once all parts were sent
record Arrived (tree : Tree) (states : List StoreState) (f : ℕ) (sender : StoreState) (holding : Holding)
    (to : ServerId) (ship place : ℕ) (after : StoreState) (all : List StoreState) : Type 0 where
  starts : Starts tree all f sender holding to ship
  count : length all ≡ length states
  there : slice_get all place ≡ Some after
  server : after.server ≡ to
  rest : (k : ℕ) → k ≢ place → slice_get all k ≡ slice_get states k
  come : Holding
  held : held_so (is_of holding.fileset.id) after.slots ≡ Some come
  not_due : NotDue sender.server ship come

-- the fileset that came whole
whole : (sender receiver : StoreState) (holding come : Holding) (ship : ℕ) → Leaves sender holding receiver.server ship →
    Comes sender holding come ship → IsStorable receiver →
    held_so (is_of holding.fileset.id) receiver.slots ≡ Some come →
    (so_far sender.server ship come (holding.fileset.objects + 1) holding.fileset.anodes).fileset
    ≡ record holding.fileset { server = receiver.server; moves = come.fileset.moves }
whole sender receiver holding come ship l c s e =
    let stored = s.each (slot_so (is_of holding.fileset.id) receiver.slots) come e in
    let right : StaysRight receiver come.fileset (Arriving sender.server ship 1) =
    subst (StaysRight receiver come.fileset) c.stay stored.stay in
    let id = same_id come.fileset.id holding.fileset.id (held_passes (is_of holding.fileset.id) receiver.slots come e) in
    ap (λ x. record come.fileset { server = x; anodes = holding.fileset.anodes }) stored.server
    ∙ ap (λ x. record come.fileset { server = receiver.server; id = x; anodes = holding.fileset.anodes }) id
    ∙ ap (λ x. record come.fileset
    { server = receiver.server; id = holding.fileset.id; name = x; anodes = holding.fileset.anodes }) c.name
    ∙ ap (λ x. record holding.fileset
    { server = receiver.server; read_only = x; objects = come.fileset.objects; moves = come.fileset.moves })
    (right.1 ∙ sym l.writable)
    ∙ ap (λ x. record holding.fileset { server = receiver.server; objects = x; moves = come.fileset.moves }) c.objects

come_whole : (tree : Tree) (states : List StoreState) (f : ℕ) (sender : StoreState) (holding : Holding) (to : ServerId)
    (ship : ℕ) (receiver after : StoreState) (come : Holding) → Starts tree states f sender holding to ship →
    (m : Meets tree states f sender holding to ship receiver come) → Comes sender holding come ship →
    Going receiver after holding.fileset.id
    (so_far sender.server ship come (holding.fileset.objects + 1) holding.fileset.anodes) →
    Arrived tree states f sender holding to ship m.place after (slice_set states m.place after)
come_whole tree states f sender holding to ship receiver after come s m c g = record {
  starts = record {
    all = all_keep tree tree states all m.place receiver after id s.all
        (record { roster = refl; servers = refl; filesets = refl }) goes g.storable
        (ap (λ (x : StoreState). x.roster) g.same) (ap (λ (x : StoreState). room_in x) g.same)
        (λ server any k. refl) never part;
    there = get_set_other states m.place f after m.apart ∙ s.there;
    leaves = s.leaves;
  };
  count = length_set states m.place after;
  there = get_set states m.place after receiver m.there;
  server = server ∙ m.server;
  rest = λ k off. get_set_other states m.place k after off;
  come = last;
  held = g.changes.here;
  not_due = λ at. ap (is_due sender.server ship at) stay;
}
  where
    id : FilesetId
    id = holding.fileset.id

    all : List StoreState
    all = slice_set states m.place after

    last : Holding
    last = so_far sender.server ship come (holding.fileset.objects + 1) holding.fileset.anodes

    stay : last.stay ≡ Writable
    stay =
        ap (λ b. if b then Writable else Arriving sender.server ship (holding.fileset.objects + 1))
        (ap (λ n. holding.fileset.objects + 1 == n + 1) c.objects ∙ same_key (holding.fileset.objects + 1))

    server : after.server ≡ receiver.server
    server = ap (λ (x : StoreState). x.server) g.same

    goes : Goes states all m.place receiver after id
    goes = record {
      replaced = record {
        count = length_set states m.place after;
        was = m.there;
        now = get_set states m.place after receiver m.there;
        rest = λ k off. get_set_other states m.place k after off;
        server = server;
        beside = g.changes.others;
      };
      moves = λ h e.
          (let both : Some come ≡ Some h = sym m.receives.held ∙ e in
          let its : come ≡ h = cc in
          (last, g.changes.here, subst (λ (x : Holding). x.fileset.moves ≤ come.fileset.moves) its (omega arith)));
    }

    never : (k : ℕ) (state : StoreState) (one h : Holding) (other parts : ℕ) → k ≢ m.place →
        slice_get states k ≡ Some state → held_so (is_of id) state.slots ≡ Some one →
        one.stay ≡ Arriving receiver.server other parts → held_so (is_of id) receiver.slots ≡ Some h →
        h.stay ≡ Leaving state.server other → ⊥
    never k state one h other parts off e held arrives was leaves =
        let both : Some come ≡ Some h = sym m.receives.held ∙ was in
        let its : come ≡ h = cc in
        let wrong : Arriving sender.server ship 1 ≡ Leaving state.server other =
        sym c.stay ∙ ap (λ (x : Holding). x.stay) its ∙ leaves in
        absurd (cc)

    in_tree : fileset_at tree receiver.server id
        ≡ Some (record holding.fileset { server = receiver.server; moves = come.fileset.moves })
    in_tree =
        let (sent, coming) = m.keeps.arriving id come sender.server ship 1 m.receives.held c.stay in
        let its = only_sender tree states f sender holding to ship s sender.server sent refl coming.held in
        coming.there
        ∙ ap (λ (h : Holding). Some (record h.fileset { server = receiver.server; moves = come.fileset.moves })) its

    no_record : record_at tree receiver.server id ≡ None
    no_record =
        sym (m.keeps.records id)
        ∙ ap (option_and_then (λ (h : Holding). record_so receiver.server h.fileset h.stay)) m.receives.held
        ∙ ap (record_so receiver.server come.fileset) c.stay

    part : Part tree all after.server id (held_so (is_of id) after.slots)
    part =
        subst (Part tree all after.server id) (sym g.changes.here)
        (subst (λ x. Part tree all x id (Some last)) (sym server)
        (part_here tree all receiver.server id last
        (record holding.fileset { server = receiver.server; moves = come.fileset.moves }) stay
        (whole sender receiver holding come ship
        (subst (λ x. Leaves sender holding x ship) (sym m.server) s.leaves) c m.receives.storable m.receives.held)
        in_tree no_record))

arrived : (tree : Tree) (states : List StoreState) (f : ℕ) (sender : StoreState) (holding : Holding) (to : ServerId)
    (ship : ℕ) (receiver : StoreState) (come : Holding) (mover : Mover) → Starts tree states f sender holding to ship →
    (m : Meets tree states f sender holding to ship receiver come) →
    AreTaken sender receiver holding come ship mover →
    (all : List StoreState) × Arrived tree states f sender holding to ship m.place
    (state_after receiver (all_parts holding sender.server ship mover)) all
arrived tree states f sender holding to ship receiver come mover s m t = by t.leaves
  where
    after : StoreState
    after = state_after receiver (all_parts holding sender.server ship mover)

    by : ((after ≡ receiver) × NotDue sender.server ship come)
        ⊎ (Comes sender holding come ship × Going receiver after holding.fileset.id
        (so_far sender.server ship come (holding.fileset.objects + 1) holding.fileset.anodes)) →
        (all : List StoreState) × Arrived tree states f sender holding to ship m.place after all
    by (inl (same, n)) = (
      states,
      record {
        starts = s;
        count = refl;
        there = m.there ∙ ap Some (sym same);
        server = ap (λ (x : StoreState). x.server) same ∙ m.server;
        rest = λ k off. refl;
        come = come;
        held = ap (λ (x : StoreState). held_so (is_of holding.fileset.id) x.slots) same ∙ m.receives.held;
        not_due = n;
      },
    )
    by (inr (c, g)) = (
      slice_set states m.place after,
      come_whole tree states f sender holding to ship receiver after come s m c g,
    )

-- the store that it has left
left_done : (sender : StoreState) (holding : Holding) (to : ServerId) (ship : ℕ) → Leaves sender holding to ship →
    act_done sender (Left holding.fileset.id) ≡ fresh Accepted (with_holding sender holding.fileset.id held_left)
unfolding act_done left_outcome
left_done sender holding to ship l =
    let held = l.held in let leaving : is_leaving holding.stay ≡ true = ap is_leaving l.stay in
    rw held (rw leaving refl)

left_changes : (sender : StoreState) (holding : Holding) (to : ServerId) (ship : ℕ) → Leaves sender holding to ship →
    ChangesOne sender.slots (with_holding sender holding.fileset.id held_left).slots holding.fileset.id
    (Some (held_left holding))
left_changes sender holding to ship l =
    changes_one sender.slots holding.fileset.id holding held_left (λ any h. refl) l.held

left_storable : (sender : StoreState) (holding : Holding) (to : ServerId) (ship : ℕ) → Leaves sender holding to ship →
    IsStorable (with_holding sender holding.fileset.id held_left)
left_storable sender holding to ship l =
    subst IsStorable (ap (λ (o : Outcome). o.state) (left_done sender holding to ship l))
    (acts_keep_storable sender (Left holding.fileset.id) l.storable tt tt)

left_stay : (holding : Holding) (to : ServerId) (ship : ℕ) → holding.stay ≡ Leaving to ship →
    (held_left holding).stay ≡ Gone to
left_stay holding to ship e = ap (λ s. (held_left (record holding { stay = s })).stay) e

-- what is found by its own id in a table that changed in one
changed_held : (old new : StoreState) (id : FilesetId) (last : Holding) → ChangesOne old.slots new.slots id (Some last) →
    IsStorable new → (place : ℕ) (h : Holding) → held_at new.slots place ≡ Some h →
    (h ≡ last) ⊎ (((h.fileset.id.0 == id.0) ≡ false) × (held_so (is_of h.fileset.id) old.slots ≡ Some h))
changed_held old new id last c s place h e = by (h.fileset.id.0 == id.0) refl
  where
    own : held_so (is_of h.fileset.id) new.slots ≡ Some h
    own = held_self new place h s e

    by : (b : Bool) → (h.fileset.id.0 == id.0) ≡ b →
        (h ≡ last) ⊎ (((h.fileset.id.0 == id.0) ≡ false) × (held_so (is_of h.fileset.id) old.slots ≡ Some h))
    by true k =
        let both : Some h ≡ Some last =
        sym own ∙ ap (λ i. held_so (is_of i) new.slots) (same_id h.fileset.id id k) ∙ c.here in
        inl (cc)
    by false k = inr (k, sym (c.others h.fileset.id k) ∙ own)

none_leaves : (sender : StoreState) (holding : Holding) (to : ServerId) (ship : ℕ) → Leaves sender holding to ship →
    ship_told (with_holding sender holding.fileset.id held_left) ≡ None
none_leaves sender holding to ship l =
    none_told 0 (with_holding sender holding.fileset.id held_left).slots (λ place h e.
    by h (changed_held sender (with_holding sender holding.fileset.id held_left) holding.fileset.id (held_left holding)
    (left_changes sender holding to ship l) (left_storable sender holding to ship l) place h e))
  where
    by : (h : Holding) → (h ≡ held_left holding) ⊎ (((h.fileset.id.0 == holding.fileset.id.0) ≡ false)
        × (held_so (is_of h.fileset.id) sender.slots ≡ Some h)) → is_leaving h.stay ≡ false
    by h (inl same) = ap (λ (x : Holding). is_leaving x.stay) same ∙ ap is_leaving (left_stay holding to ship l.stay)
    by h (inr (off, e)) =
        elim ((l.storable.apart (slot_so (is_of holding.fileset.id) sender.slots)
        (slot_so (is_of h.fileset.id) sender.slots) holding h apart l.held e).leaving) as
        (λ _. is_leaving h.stay ≡ false) [
          | inl none ↦ (let wrong : true ≡ false = sym (ap is_leaving l.stay) ∙ none in absurd (cc))
          | inr none ↦ none
        ]
      where
        apart : slot_so (is_of holding.fileset.id) sender.slots ≢ slot_so (is_of h.fileset.id) sender.slots
        apart same =
            let both : Some holding ≡ Some h = sym l.held ∙ ap (held_at sender.slots) same ∙ e in
            let its : holding ≡ h = cc in
            let wrong : false ≡ true =
            sym off ∙ ap (λ (x : Holding). x.fileset.id.0 == holding.fileset.id.0) (sym its)
            ∙ same_key holding.fileset.id.0 in
            absurd (cc)

none_more : (sender receiver after : StoreState) (holding come : Holding) (ship : ℕ) →
    (after ≡ receiver) ⊎ (Comes sender holding come ship × Going receiver after holding.fileset.id
    (so_far sender.server ship come (holding.fileset.objects + 1) holding.fileset.anodes)) →
    ship_told receiver ≡ None → ship_told after ≡ None
none_more sender receiver after holding come ship (inl same) none = ap ship_told same ∙ none
none_more sender receiver after holding come ship (inr (c, g)) none =
    none_told 0 after.slots (λ place h e.
    by h (changed_held receiver after holding.fileset.id last g.changes g.storable place h e))
  where
    last : Holding
    last = so_far sender.server ship come (holding.fileset.objects + 1) holding.fileset.anodes

    stay : last.stay ≡ Writable
    stay =
        ap (λ b. if b then Writable else Arriving sender.server ship (holding.fileset.objects + 1))
        (ap (λ n. holding.fileset.objects + 1 == n + 1) c.objects ∙ same_key (holding.fileset.objects + 1))

    by : (h : Holding) → (h ≡ last) ⊎ (((h.fileset.id.0 == holding.fileset.id.0) ≡ false)
        × (held_so (is_of h.fileset.id) receiver.slots ≡ Some h)) → is_leaving h.stay ≡ false
    by h (inl same) = ap (λ (x : Holding). is_leaving x.stay) same ∙ ap is_leaving stay
    by h (inr (off, e)) = ships_none receiver (slot_so (is_of h.fileset.id) receiver.slots) h none e

-- the stores once it has left
all_left : (tree : Tree) (states all after : List StoreState) (f : ℕ) (sender : StoreState) (holding : Holding)
    (to : ServerId) (ship place : ℕ) (receiver : StoreState) →
    Arrived tree states f sender holding to ship place receiver all → length after ≡ length all →
    slice_get after f ≡ Some (with_holding sender holding.fileset.id held_left) →
    ((k : ℕ) → k ≢ f → slice_get after k ≡ slice_get all k) →
    KeepUnderWay (left_tree tree sender.server holding.fileset.id) after
all_left tree states all after f sender holding to ship place receiver a count now rest =
    all_keep tree next all after f sender gone id s.all
    (record { roster = parts.roster; servers = parts.servers; filesets = parts.filesets }) goes
    (left_storable sender holding to ship s.leaves) refl refl beside never part
  where
    s : Starts tree all f sender holding to ship
    s = a.starts

    id : FilesetId
    id = holding.fileset.id

    next : Tree
    next = left_tree tree sender.server id

    gone : StoreState
    gone = with_holding sender id held_left

    parts : LeftParts tree sender.server id
    parts = left_parts tree sender.server id

    changes : ChangesOne sender.slots gone.slots id (Some (held_left holding))
    changes = left_changes sender holding to ship s.leaves

    keep : KeepsUnderWay tree all sender
    keep = s.all.keeps f sender s.there

    goes : Goes all after f sender gone id
    goes = record {
      replaced = record {
        count = count;
        was = s.there;
        now = now;
        rest = rest;
        server = refl;
        beside = changes.others;
      };
      moves = λ h e.
          (let both : Some holding ≡ Some h = sym s.leaves.held ∙ e in
          let its : holding ≡ h = cc in (
            held_left holding,
            changes.here,
            subst (λ (x : Holding). x.fileset.moves ≤ holding.fileset.moves) its (omega arith),
          ));
    }

    -- other records
    one_other : (server : ServerId) (any : FilesetId) (away : Away) → is_away server any away ≡ true →
        ((server ≡ sender.server) → (any.0 == id.0) ≡ false) → free_if sender.server id away ≡ away
    one_other server any away its k = by (is_away sender.server id away) refl
      where
        by : (b : Bool) → is_away sender.server id away ≡ b →
            (if b then record away { room_kept = false } else away) ≡ away
        by false e = refl
        by true e =
            let here = equal_keys away.server.0 server.0 (and_left (away.server.0 == server.0) (away.fileset.0 == any.0) its) in
            let own = equal_keys away.server.0 sender.server.0
            (and_left (away.server.0 == sender.server.0) (away.fileset.0 == id.0) e) in
            let there = equal_keys away.fileset.0 any.0
            (and_right (away.server.0 == server.0) (away.fileset.0 == any.0) its) in
            let mine = equal_keys away.fileset.0 id.0
            (and_right (away.server.0 == sender.server.0) (away.fileset.0 == id.0) e) in
            let server_is : server ≡ sender.server =
            ap (λ n. let one : ServerId = record { 0 = n } in one) (sym here ∙ own) in
            let wrong : true ≡ false =
            sym (ap (λ n. n == id.0) (sym there ∙ mine) ∙ same_key id.0) ∙ k server_is in
            absurd (cc)

    beside : (server : ServerId) (any : FilesetId) → ((server ≡ sender.server) → (any.0 == id.0) ≡ false) →
        record_at next server any ≡ record_at tree server any
    beside server any k =
        record_left tree sender.server id server any ∙ by (record_at tree server any) refl
      where
        by : (found : Option Away) → record_at tree server any ≡ found →
            option_map (free_if sender.server id) found ≡ found
        by None e = refl
        by (Some away) e = ap Some (one_other server any away (found_passes (is_away server any) tree.away away e) k)

    never : (k : ℕ) (state : StoreState) (one h : Holding) (other parts : ℕ) → k ≢ f →
        slice_get all k ≡ Some state → held_so (is_of id) state.slots ≡ Some one →
        one.stay ≡ Arriving sender.server other parts → held_so (is_of id) sender.slots ≡ Some h →
        h.stay ≡ Leaving state.server other → ⊥
    never k state one h other parts off e held arrives was leaves =
        let first : Some holding ≡ Some h = sym s.leaves.held ∙ was in
        let its : holding ≡ h = cc in
        let both : Leaving to ship ≡ Leaving state.server other =
        sym s.leaves.stay ∙ ap (λ (x : Holding). x.stay) its ∙ leaves in
        let server : to ≡ state.server = cc in
        let number : ship ≡ other = cc in
        let same_place = server_place tree all s.all k place state receiver e a.there
        (ap (λ (x : ServerId). x.0) (sym server ∙ sym a.server)) in
        let states_same : Some state ≡ Some receiver = sym e ∙ ap (slice_get all) same_place ∙ a.there in
        let state_is : state ≡ receiver = cc in
        let found : Some one ≡ Some a.come =
        sym held ∙ ap (λ (x : StoreState). held_so (is_of id) x.slots) state_is ∙ a.held in
        let came : one ≡ a.come = cc in
        let due : is_due sender.server ship parts one.stay ≡ true =
        ap (is_due sender.server ship parts) arrives
        ∙ ap (λ n. ((sender.server.0 == sender.server.0) && (n == ship)) && (parts == parts)) (sym number)
        ∙ ap (λ b. (b && (ship == ship)) && (parts == parts)) (same_key sender.server.0)
        ∙ ap (λ b. b && (parts == parts)) (same_key ship) ∙ same_key parts in
        let wrong : true ≡ false =
        sym due ∙ ap (λ (x : Holding). is_due sender.server ship parts x.stay) came ∙ a.not_due parts in
        absurd (cc)

    nothing_here : fileset_at next sender.server id ≡ None
    nothing_here =
        same_fileset tree next (record { roster = parts.roster; servers = parts.servers; filesets = parts.filesets })
        sender.server id
        ∙ sym (keep.filesets id (ap (λ o. option_map_or is_arriving (option_map (λ (h : Holding). h.stay) o) false)
        s.leaves.held ∙ ap is_arriving s.leaves.stay))
        ∙ ap (option_and_then if_here) s.leaves.held
        ∙ ap (λ x. if_here (record holding { stay = x })) s.leaves.stay

    told : Away
    told = record (gone_from sender.server holding.fileset to) { room_kept = true }

    recorded : record_at tree sender.server id ≡ Some told
    recorded =
        sym (keep.records id)
        ∙ ap (option_and_then (λ (h : Holding). record_so sender.server h.fileset h.stay)) s.leaves.held
        ∙ ap (record_so sender.server holding.fileset) s.leaves.stay

    freed_now : record_at next sender.server id ≡ Some (gone_from sender.server (held_left holding).fileset to)
    freed_now =
        record_left tree sender.server id sender.server id
        ∙ ap (option_map (free_if sender.server id)) recorded
        ∙ ap (λ b. Some (if b then record told { room_kept = false } else told))
        (ap (λ b. b && (id.0 == id.0)) (same_key sender.server.0) ∙ same_key id.0)

    part : Part next after gone.server id (held_so (is_of id) gone.slots)
    part =
        subst (Part next after sender.server id) (sym changes.here)
        (part_gone next after sender.server id (held_left holding) to (left_stay holding to ship s.leaves.stay)
        nothing_here freed_now
        (λ fileset found. keep.older id holding fileset s.leaves.held (ap is_out s.leaves.stay)
        (ap (find (has_id id)) (sym parts.filesets) ∙ found)))

pub moves_finish : MovesFinish
moves_finish tree states f sender holding to ship mover all there held stay mover_is =
    record {
      receiver = receiver;
      there = ap (slice_get states) place ∙ m.there;
      server = m.server;
      two = λ e. m.apart (e ∙ place);
      asked = asked_of sender holding to ship leaves;
      parts = t.may;
      left = ap (λ (o : Outcome). o.done) does;
      none = ap (λ (o : Outcome). ship_told o.state) does ∙ none_leaves sender holding to ship leaves;
      no_more = none_more sender receiver last holding come ship (elim t.leaves as
          (λ _. (last ≡ receiver) ⊎ (Comes sender holding come ship × Going receiver last holding.fileset.id
          (so_far sender.server ship come (holding.fileset.objects + 1) holding.fileset.anodes))) [
            | inl (same, n) ↦ inl same
            | inr (c, g) ↦ inr (c, g)
          ]);
      keeps = keeps;
      same = (left_parts tree sender.server holding.fileset.id).freed_too;
    }
  where
    leaves : Leaves sender holding to ship
    leaves = leaves_so sender holding to ship (all.keeps f sender there).storable held stay

    s : Starts tree states f sender holding to ship
    s = record { all = all; there = there; leaves = leaves }

    met : (receiver : StoreState) × (come : Holding) × Meets tree states f sender holding to ship receiver come
    met = meets tree states f sender holding to ship s

    receiver : StoreState
    receiver = met.0

    come : Holding
    come = met.1

    m : Meets tree states f sender holding to ship met.0 met.1
    m = met.2

    place : to.0 - 1 ≡ m.place
    place = let number = m.number in omega (arith, number)

    t : AreTaken sender receiver holding come ship mover
    t = taken tree states f sender holding to ship receiver come mover s m mover_is

    last : StoreState
    last = state_after receiver (all_parts holding sender.server ship mover)

    does : act_done sender (Left holding.fileset.id)
        ≡ fresh Accepted (with_holding sender holding.fileset.id held_left)
    does = left_done sender holding to ship leaves

    keeps : (after : List StoreState) → length after ≡ length states → slice_get after (to.0 - 1) ≡ Some last →
        slice_get after f ≡ Some (act_done sender (Left holding.fileset.id)).state →
        ((k : ℕ) → k ≢ f → k ≢ to.0 - 1 → slice_get after k ≡ slice_get states k) →
        KeepUnderWay (left_tree tree sender.server holding.fileset.id) after
    keeps after count first second rest =
        let (those, a) = arrived tree states f sender holding to ship receiver come mover s m t in
        all_left tree states those after f sender holding to ship m.place last a (count ∙ sym a.count)
        (second ∙ ap (λ (o : Outcome). Some o.state) does)
        (λ k off.
        elim (eqb_tells k m.place) as (λ _. slice_get after k ≡ slice_get those k) [
          | inl (z, same) ↦
              ap (slice_get after) (same ∙ sym place) ∙ first ∙ sym a.there ∙ ap (slice_get those) (sym same)
          | inr (z, other) ↦ rest k off (λ e. other (e ∙ place)) ∙ sym (a.rest k other)
        ])
