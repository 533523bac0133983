-- Each step keeps the rule.
use Rattle.std.proofs.Common.{◌≡◌, ◌≢◌, ◌⊎◌, ℕ, zero, suc, ◌+◌, ◌*◌, ◌/◌, ◌%◌, ◌^◌, ◌<◌, ◌≤◌, List, [], ◌∷◌, ◌++◌}
use Rattle.std.proofs.Common.{length, drop, set, refl, sym, ap, ◌∙◌, subst, ⊎_elim, inl, inr, arith, length-set}
use Rattle.std.proofs.Common.{length-append}
use Rattle.std.specs.Prelude.{slice_index, slice_set}
use Rattle.std.proofs.Math.Nat.{mod-add-div, add-mul-mod_self_left, mod-eq_of_lt}
use Rattle.std.proofs.Math.Seq.{drop-append_seam}
use Rattle.std.proofs.lemmas.List.{append-nil}
use mathlib.Core.Option.{Option, none, some, some-ne-none, some-injective}
use mathlib.Core.Logic.{dite}
use native.Mathlib.Decide.{ℕ_discrete}
use lib.ListN.{get_elem?}
use Rattle.atomic_table.specs.Table.{State, step, keeps, takes, gives, Allows, Splits, Joins, opening, Final, Seen}
use Rattle.atomic_table.proofs.Lists.{at_set, set_here, set_else, at_longer, at_last, one_turn}
use Rattle.hub_cell.specs.declared.rule.View.{View}
use Rattle.hub_cell.specs.declared.rule.Stage.{Stage}
use Rattle.hub_cell.specs.declared.rule.Stage.TheVariants.{Idle, Waits, Holds}
use Rattle.hub_cell.specs.Lists.{IsPrefix, AllBegin, numbered, entries, merged}
use Rattle.hub_cell.specs.Lock.{tickets, view, first_view, spent, tickets_of, seats_of, made_of, owned, HasTicket}
use Rattle.hub_cell.specs.Lock.{Stands, Fits, Rests, IsKept, held_list, drawn, looked, counted, told, ended_turn}
use Rattle.hub_cell.specs.Lock.{kept_seats, new_seat, joined_views}
use Rattle.hub_cell.proofs.Totals.{total_set, total_more, total_has, total_one, total_two, total_least, there}
use Rattle.hub_cell.proofs.Totals.{each_set}
use Rattle.hub_cell.proofs.Logs.{all_begin_more, tagged, entries-more, owned-more, owned-same, prefix_more}
use Rattle.hub_cell.proofs.Logs.{length-entries, length-numbered, length-tagged, renamed, entries-renamed}
use Rattle.hub_cell.proofs.Logs.{length-renamed, owned-renamed_from, owned-renamed_else, owned-renamed_to}
use Rattle.hub_cell.proofs.Logs.{longer_prefix, length-merged, owned_whole}

pub mod_step : (a b c : ℕ) → (a % c + b) % c ≡ (a + b) % c
mod_step a b c =
    let parts = mod-add-div a c in
    let whole : a + b ≡ (a % c + b) + c * (a / c) = let x : ℕ = c * (a / c) in let y : ℕ = a % c in
    let p : y + x ≡ a = parts in omega arith in
    sym (ap (λ n. n % c) whole ∙ add-mul-mod_self_left (a % c + b) c (a / c))

module _ {T E : Type 0} (list : T → List E) (fit : T → Type 0) (seats : ℕ) (s : State T (View E))
    (k : IsKept list fit seats s) (id : ℕ) (v w : View E) (at : get_elem? s.views id ≡ some v) where
  -- the rule, once one seat's view has changed
  pub changed : (log : List (ℕ × E)) (queue : List ℕ) (ended : ℕ) (slot : Option T) (ws : List ℕ) (hs : List (Option T))
      → ws ≡ ((ended + length queue) % 2 ^ 64) ∷ (ended % 2 ^ 64) ∷ length log ∷ []
      → hs ≡ slot ∷ []
      → Rests list fit log (set s.views id w) slot
      → ((j : ℕ) (u : View E) → j ≢ id → get_elem? s.views j ≡ some u → Fits k.log k.queue k.ended k.slot j u →
      Fits log queue ended slot j u)
      → Fits log queue ended slot id w
      → ((j : ℕ) → length s.views ≤ j → owned j 0 log ≡ [])
      → w.seats ≡ v.seats
      → length queue + tickets_of v ≡ length k.queue + tickets_of w
      → length log + made_of v ≡ length k.log + made_of w
      → IsKept list fit seats (record { words = ws; homes = hs; views = set s.views id w })
  changed log queue ended slot ws hs words homes rests others mine none_else seats_kept tickets_kept made_kept = record {
    log = log;
    queue = queue;
    ended = ended;
    slot = slot;
    few = k.few;
    words = words;
    homes = homes;
    rests = rests;
    each = each_set (Fits log queue ended slot) s.views id w (λ j u apart e. others j u apart e (k.each j u e)) mine;
    none_else = λ j far. none_else j (subst (λ n. n ≤ j) (length-set s.views id w) far);
    all_seats = (let t = total_set seats_of s.views id v w at in let a = k.all_seats in omega arith);
    all_tickets = (let t = total_set tickets_of s.views id v w at in let a = k.all_tickets in omega arith);
    all_made = (let t = total_set made_of s.views id v w at in let a = k.all_made in omega arith);
  }

-- the same of a seat that is elsewhere in the queue
still_rests : {T E : Type 0} (list : T → List E) (fit : T → Type 0) (log : List (ℕ × E)) (views : List (View E))
    (id : ℕ) (v w : View E) (slot : Option T)
    → get_elem? views id ≡ some v → v.stage ≡ w.stage ⊎ v.stage ≡ Idle → Rests list fit log views slot →
    Rests list fit log (set views id w) slot
still_rests list fit log views id v w (some x) at how rests = rests
still_rests list fit log views id v w none at how rests = dite (ℕ_discrete rests.0 id)
    (λ same. let is : v ≡ rests.1 = some-injective _ _ (sym at ∙ ap (get_elem? views) (sym same) ∙ rests.3) in
    ⊎_elim
    (λ (e : v.stage ≡ w.stage). (
      id,
      w,
      rests.2,
      set_here views id w (there views id v at),
      sym e ∙
          ap (λ (u : View _). u.stage) is ∙ rests.4,
    ))
    (λ (e : v.stage ≡ Idle). let clash : Idle ≡ Holds rests.2 = sym e ∙ ap (λ (u : View _). u.stage) is ∙ rests.4 in
    absurd (cc))
    how)
    (λ apart. (rests.0, rests.1, rests.2, set_else views id rests.0 w apart ∙ rests.3, rests.4))

-- a ticket more at the end of the queue
further_back : {S E : Type 0} (log : List (ℕ × E)) (queue more : List ℕ) (ended : ℕ) (slot : Option S) (seat : ℕ)
    (v : View E) (stage : Stage)
    → Stands log queue ended slot seat v stage → Stands log (queue ++ more) ended slot seat v stage
further_back log queue more ended slot seat v Idle h = tt
further_back log queue more ended slot seat v (Waits t) h = (h.0, (h.1.0, h.1.1, at_longer queue more h.1.0 seat h.1.2))
further_back log queue more ended slot seat v (Holds t) h =
    ((h.0.0, (h.0.1.0, h.0.1.1, at_longer queue more h.0.1.0 seat h.0.1.2)), h.1, h.2, h.3)

pub draws : {T E : Type 0} (list : T → List E) (fit : T → Type 0) (seats slots id : ℕ) (v : View E) (c : List (ℕ × T)) →
    v.stage ≡ Idle → 1 ≤ v.seats
    → Allows (IsKept list fit seats) slots id (v, c) 0 (λ n. (n + 1) % 2 ^ 64) (drawn (step slots 0 1 0 none) (v, c))
draws {T} {E} list fit seats slots id v c idle live s k len at fits =
    let ticket : ℕ = k.ended + length k.queue in
    let w : View E = view v.seen v.made v.seats (Waits ticket) in
    let old = k.each id v at in
    let first : slice_index s.words 0 ≡ ticket % 2 ^ 64 = ap (λ ws. slice_index ws 0) k.words in
    let words : slice_set s.words 0 ((slice_index s.words 0 + 1) % 2 ^ 64) ≡ ((k.ended + length (k.queue ++ id ∷ [])) %
    2 ^ 64) ∷ (k.ended % 2 ^ 64) ∷ length k.log ∷ [] =
    ap (λ ws. slice_set ws 0 ((slice_index ws 0 + 1) % 2 ^ 64)) k.words
    ∙ ap (λ n. n ∷ (k.ended % 2 ^ 64) ∷ length k.log ∷ []) (mod_step ticket 1 (2 ^ 64) ∙ ap (λ n. n % 2 ^ 64)
    (let l = length-append k.queue (id ∷ []) in omega arith)) in (
      w,
      keeps,
      tt,
      changed list fit seats s k id v w at k.log (k.queue ++ id ∷ []) k.ended k.slot _ _ words k.homes
          (still_rests list fit k.log s.views id v w k.slot at (inr idle) k.rests)
          (λ j u apart e f. record {
            seen = f.seen;
            made = f.made;
            stands = further_back k.log k.queue (id ∷ []) k.ended
                k.slot j u u.stage f.stands;
            joined = f.joined;
            heard = f.heard;
          })
          record {
            seen = old.seen;
            made = old.made;
            stands = (live, (length k.queue, refl, at_last k.queue id (length k.queue) refl));
            joined = old.joined;
            heard = tt;
          }
          k.none_else
          refl
          (let l = length-append k.queue (id ∷ []) in let z : tickets_of v ≡ 0 = ap tickets idle in omega arith)
          refl,
      (refl, (ticket, first, refl)),
    )

-- the tickets whose turns have not ended are at most as many as the seats
few_tickets : {T E : Type 0} (list : T → List E) (fit : T → Type 0) (seats : ℕ) (s : State T (View E))
    (k : IsKept list fit seats s) → length k.queue ≤ seats
few_tickets {T} {E} list fit seats s k =
    let each : (j : ℕ) (v : View E) → get_elem? s.views j ≡ some v → tickets_of v ≤ seats_of v = λ j v e.
    one v.stage v.seats j k.log k.queue k.ended k.slot v refl refl (k.each j v e).stands in
    let t = total_least tickets_of seats_of s.views each in let a = k.all_tickets in let b = k.all_seats in omega arith
  where
    one : (stage : Stage) (n : ℕ) (j : ℕ) (log : List (ℕ × E)) (queue : List ℕ) (ended : ℕ) (slot : Option T)
        (v : View E) → v.stage ≡ stage → v.seats ≡ n → Stands log queue ended slot j v v.stage → tickets_of v ≤ seats_of
        v
    one Idle n j log queue ended slot v e f h = let z : tickets_of v ≡ 0 = ap tickets e in omega arith
    one (Waits t) n j log queue ended slot v e f h = let z : tickets_of v ≡ 1 = ap tickets e in
        let g = subst (Stands log queue ended slot j v) e h in let live = g.0 in omega arith
    one (Holds t) n j log queue ended slot v e f h = let z : tickets_of v ≡ 1 = ap tickets e in
        let g = subst (Stands log queue ended slot j v) e h in let live = g.0.0 in omega arith

-- what is known of a seat with a ticket, by its stage
waiting : {T E : Type 0} (list : T → List E) (fit : T → Type 0) (seats : ℕ) (s : State T (View E))
    (k : IsKept list fit seats s) (id : ℕ) (v : View E) (t : ℕ) → get_elem? s.views id ≡ some v → v.stage ≡ Waits t →
    HasTicket k.queue k.ended id v t
waiting list fit seats s k id v t at is = subst (Stands k.log k.queue k.ended k.slot id v) is (k.each id v at).stands

holding : {T E : Type 0} (list : T → List E) (fit : T → Type 0) (seats : ℕ) (s : State T (View E))
    (k : IsKept list fit seats s) (id : ℕ) (v : View E) (t : ℕ) → get_elem? s.views id ≡ some v → v.stage ≡ Holds t
    → HasTicket k.queue k.ended id v t × (t ≡ k.ended) × (v.seen ≡ entries k.log) × (k.slot ≡ none)
holding list fit seats s k id v t at is = subst (Stands k.log k.queue k.ended k.slot id v) is (k.each id v at).stands

-- the seat of the first ticket
at_front : (queue : List ℕ) (ended t k : ℕ) (id : ℕ) → t ≡ ended + k → t ≡ ended → get_elem? queue k ≡ some id →
    get_elem? queue 0 ≡ some id
at_front queue ended t k id is front e = let z : 0 ≡ k = omega arith in ap (get_elem? queue) z ∙ e

-- the value is at home when a seat finds that it is its turn
at_home : {T E : Type 0} (list : T → List E) (fit : T → Type 0) (seats : ℕ) (s : State T (View E))
    (k : IsKept list fit seats s) (id : ℕ) (v : View E) (t : ℕ) (slot : Option T) → k.slot ≡ slot
    → get_elem? s.views id ≡ some v → v.stage ≡ Waits t → get_elem? k.queue 0 ≡ some id → (x : T) × (slot ≡ some x) ×
    (list x ≡ entries k.log) × fit x
at_home list fit seats s k id v t (some x) is at stage front = (let r = subst (Rests list fit k.log s.views) is
    k.rests in (x, refl, r.0, r.1))
at_home list fit seats s k id v t none is at stage front =
    let away = subst (Rests list fit k.log s.views) is k.rests in
    let h = holding list fit seats s k away.0 away.1 away.2 away.3 away.4 in
    let there : get_elem? k.queue 0 ≡ some away.0 = at_front k.queue k.ended away.2 h.0.1.0 away.0 h.0.1.1 h.1
    h.0.1.2 in
    let same : away.0 ≡ id = some-injective _ _ (sym there ∙ front) in
    let one : away.1 ≡ v = some-injective _ _ (sym away.3 ∙ ap (get_elem? s.views) same ∙ at) in
    let clash : Holds away.2 ≡ Waits t = sym away.4 ∙ ap (λ (u : View _). u.stage) one ∙ stage in absurd (cc)

-- a waiting or idle seat stands as before when the slot goes away
slot_away : {S E : Type 0} (log : List (ℕ × E)) (queue : List ℕ) (ended : ℕ) (x : S) (seat : ℕ) (v : View E)
    (stage : Stage) → Stands log queue ended (some x) seat v stage → (let away : Option S = none in
    Stands log queue ended away seat v stage)
slot_away log queue ended x seat v Idle h = tt
slot_away log queue ended x seat v (Waits t) h = h
slot_away log queue ended x seat v (Holds t) h = absurd (some-ne-none x h.3)

took : {T E : Type 0} (list : T → List E) (fit : T → Type 0) (seats id : ℕ) (v : View E) (c : List (ℕ × T)) (t : ℕ)
    (s : State T (View E)) (k : IsKept list fit seats s) (n : ℕ) → v.stage ≡ Waits t → get_elem? s.views id ≡ some v
    → n ≡ k.ended % 2 ^ 64 → n ≡ t % 2 ^ 64 → (x : T) → k.slot ≡ some x → list x ≡ entries k.log →
    HasTicket k.queue k.ended id v t → t ≡ k.ended
    → IsKept list fit seats (record {
      words = slice_set s.words 1 (slice_index s.words 1);
      homes = slice_set s.homes 0
          none;
      views = slice_set s.views id (view (list x) v.made v.seats (Holds t));
    })
took {T} {E} list fit seats id v c t s k n stage at found hit x home has ticket front =
    let w : View E = view (list x) v.made v.seats (Holds t) in
    let old = k.each id v at in
    changed list fit seats s k id v w at k.log k.queue k.ended none _ _
    (ap (λ ws. slice_set ws 1 (slice_index ws 1)) k.words)
    (ap (λ hs. slice_set hs 0 none) k.homes)
    (id, w, t, set_here s.views id w (there s.views id v at), refl)
    (λ j u apart e f. record {
      seen = f.seen;
      made = f.made;
      stands = slot_away k.log k.queue k.ended x j u u.stage
          (subst (λ o. Stands k.log k.queue k.ended o j u u.stage) home f.stands);
      joined = f.joined;
      heard = f.heard;
    })
    record {
      seen = ([], sym has ∙ sym (append-nil (list x)));
      made = old.made;
      stands = (
        (ticket.0, ticket.1),
        front,
        has,
        refl,
      );
      joined = old.joined;
      heard = tt;
    }
    k.none_else
    refl
    (let z : tickets_of v ≡ 1 = ap tickets stage in omega arith)
    refl

stays : {T E : Type 0} (list : T → List E) (fit : T → Type 0) (seats id : ℕ) (v : View E) (s : State T (View E)) →
    IsKept list fit seats s → get_elem? s.views id ≡ some v
    → IsKept list fit seats (record {
      words = slice_set s.words 1 (slice_index s.words 1);
      homes = s.homes;
      views = slice_set s.views id v;
    })
stays {T} {E} list fit seats id v s k at =
    let old = k.each id v at in
    changed list fit seats s k id v v at k.log k.queue k.ended k.slot _ _
    (ap (λ ws. slice_set ws 1 (slice_index ws 1)) k.words)
    k.homes
    (still_rests list fit k.log s.views id v v k.slot at (inl refl) k.rests)
    (λ j u apart e f. f)
    old
    k.none_else
    refl
    refl
    refl

pub looks : {T E : Type 0} (list : T → List E) (fit fit' : T → Type 0) (known : (x : T) → fit x → fit' x)
    (seats slots id : ℕ) (v : View E) (c : List (ℕ × T)) (t : ℕ) → v.stage ≡ Waits t
    → Allows (IsKept list fit seats) slots id (v, c) 1 (λ n. n) (looked list fit' (step slots 1 0 0 none) (v, c))
looks {T} {E} list fit fit' known seats slots id v c t stage s k len at fits =
    let ticket = waiting list fit seats s k id v t at stage in
    let second : slice_index s.words 1 ≡ k.ended % 2 ^ 64 = ap (λ ws. slice_index ws 1) k.words in
    dite (ℕ_discrete (slice_index s.words 1) (t % 2 ^ 64))
    (λ hit.
    let few = few_tickets list fit seats s k in
    let bound = k.few in
    let near = there k.queue ticket.1.0 id ticket.1.2 in
    let is = ticket.1.1 in
    let front : t ≡ k.ended = sym (one_turn k.ended t (2 ^ 64) (omega arith) (omega arith) (sym second ∙ hit)) in
    let home = at_home list fit seats s k id v t k.slot refl at stage (at_front k.queue k.ended t ticket.1.0 id is front
    ticket.1.2) in
    let x : T = home.0 in (
      view (list x) v.made v.seats (Holds t),
      takes 0 x,
      ap (λ hs. get_elem? hs 0) k.homes ∙ ap some home.1,
      took list fit seats id v c t s k (slice_index s.words 1) stage at second hit x home.1 home.2 ticket front,
      (λ other same.
          let one : other ≡ t = (let e : Waits other ≡ Waits t = sym same ∙ stage in cc) in (
            (λ _. record {
              value = x;
              held = refl;
              view_is = ap (λ z. view (list x) v.made v.seats (Holds z)) (sym one);
              seen = (let p = (k.each id v at).seen in (p.0, home.2 ∙ p.1));
              fits = known x home.3;
            }),
            (λ miss. absurd (miss (hit ∙ ap (λ z. z % 2 ^ 64) (sym one)))),
          )),
    ))
    (λ miss. (
      v,
      keeps,
      tt,
      stays list fit seats id v s k at,
      (λ other same.
          let one : other ≡ t = (let e : Waits other ≡ Waits t = sym same ∙ stage in cc) in
          ((λ hit. absurd (miss (hit ∙ ap (λ z. z % 2 ^ 64) one))), (λ _. refl))),
    ))

-- a seat with a ticket isn't the one at the front
not_front : (queue : List ℕ) (id j : ℕ) → j ≢ id → get_elem? queue 0 ≡ some id → ¬ (get_elem? queue 0 ≡ some j)
not_front queue id j apart front e = apart (sym (some-injective _ _ (sym front ∙ e)))

-- another seat stands as before, when the list grows while the seat at the front has the value
grown_aside : {S E : Type 0} (log more : List (ℕ × E)) (queue : List ℕ) (ended : ℕ) (slot : Option S) (id seat : ℕ)
    (v : View E) (stage : Stage) → seat ≢ id → get_elem? queue 0 ≡ some id
    → Stands log queue ended slot seat v stage → Stands (log ++ more) queue ended slot seat v stage
grown_aside log more queue ended slot id seat v Idle apart front h = tt
grown_aside log more queue ended slot id seat v (Waits t) apart front h = h
grown_aside log more queue ended slot id seat v (Holds t) apart front h = absurd (not_front queue id seat apart front
    (at_front queue ended t h.0.1.0 seat h.0.1.1 h.1 h.0.1.2))

pub counts : {T E : Type 0} (list : T → List E) (fit : T → Type 0) (seats slots id : ℕ) (v : View E) (c : List (ℕ × T))
    (t : ℕ) (added : List E) (more : ℕ) → v.stage ≡ Holds t → held_list list c ≡ v.seen ++ added → length added ≡ more
    → length (held_list list c) < 2 ^ 64
    → Allows (IsKept list fit seats) slots id (v, c) 2 (λ n. (n + more) % 2 ^ 64)
    (counted list (step slots 2 more 0 none) (v, c))
counts {T} {E} list fit seats slots id v c t added more stage grown count small s k len at fits =
    let now : List E = held_list list c in
    let h = holding list fit seats s k id v t at stage in
    let old = k.each id v at in
    let front = at_front k.queue k.ended t h.0.1.0 id h.0.1.1 h.1 h.0.1.2 in
    let behind : drop (length v.seen) now ≡ added = ap (drop (length v.seen)) grown ∙ drop-append_seam v.seen added in
    let long : length v.seen ≡ length k.log = ap length h.2 ∙ length-entries k.log in
    let made : List (ℕ × E) = v.made ++ numbered (length v.seen) (drop (length v.seen) now) in
    let w : View E = view now made v.seats v.stage in
    let log : List (ℕ × E) = k.log ++ tagged id added in
    let is_now : entries log ≡ now = entries-more k.log id added ∙ ap (λ l. l ++ added) (sym h.2) ∙ sym grown in
    let longer_log : length log ≡ length k.log + more = length-append k.log (tagged id added) ∙
    ap (λ n. length k.log + n) (length-tagged id added ∙ count) in
    let is_made : made ≡ owned id 0 log = (λ i. old.made i ++ numbered (long i) (behind i)) ∙
    sym (owned-more id k.log added) in
    let room : length k.log + more < 2 ^ 64 = (let a : length now ≡ length k.log + more = ap length (sym is_now) ∙
    length-entries log ∙ longer_log in omega arith) in
    let third : slice_set s.words 2 ((slice_index s.words 2 + more) % 2 ^ 64) ≡ ((k.ended + length k.queue) % 2 ^ 64)
    ∷ (k.ended % 2 ^ 64) ∷ length log ∷ [] =
    ap (λ ws. slice_set ws 2 ((slice_index ws 2 + more) % 2 ^ 64)) k.words
    ∙ ap (λ n. ((k.ended + length k.queue) % 2 ^ 64) ∷ (k.ended % 2 ^ 64) ∷ n ∷ [])
    (mod-eq_of_lt room ∙ sym longer_log) in
    let live : 1 ≤ v.seats = h.0.0 in (
      w,
      keeps,
      tt,
      changed list fit seats s k id v w at log k.queue k.ended k.slot _ _ third k.homes
          (subst (Rests list fit log (set s.views id w)) (sym h.3) (
            id,
            w,
            t,
            set_here s.views id w
                (there s.views id v at),
            stage,
          ))
          (λ j u apart e f. record {
            seen = subst (λ l. IsPrefix u.seen l) (sym (entries-more k.log id added))
                (prefix_more u.seen (entries k.log) added f.seen);
            made = f.made ∙ sym (owned-same j id k.log added (λ e'. apart (sym e')));
            stands = grown_aside k.log (tagged id added) k.queue k.ended k.slot id j u u.stage apart front f.stands;
            joined = f.joined;
            heard = subst (AllBegin u.heard) (sym (entries-more k.log id added))
                (all_begin_more u.heard (entries k.log) added f.heard);
          })
          record {
            seen = ([], is_now ∙ sym (append-nil now));
            made = is_made;
            stands = subst (Stands log k.queue k.ended k.slot id w) (sym stage) (h.0, h.1, sym is_now, h.3);
            joined = (λ none_left. absurd (let z : v.seats ≡ 0 = none_left in omega arith));
            heard = tt;
          }
          (λ j far. owned-same j id k.log added (λ e. let near = there s.views id v at in
          omega arith) ∙ k.none_else j far)
          refl
          refl
          (let a : length made ≡ length v.made + more = length-append v.made (numbered (length v.seen)
          (drop (length v.seen) now)) ∙ ap (λ n. length v.made + n) (length-numbered (length v.seen)
          (drop (length v.seen) now) ∙ ap length behind ∙ count) in omega arith),
      (refl, refl),
    )

-- once the turn at the front has ended, the others have come nearer
nearer : {S E : Type 0} (log : List (ℕ × E)) (queue : List ℕ) (ended : ℕ) (slot slot' : Option S) (id seat : ℕ)
    (v : View E) (stage : Stage) → seat ≢ id
    → Stands log (id ∷ queue) ended slot seat v stage → Stands log queue (suc ended) slot' seat v stage
nearer log queue ended slot slot' id seat v Idle apart h = tt
nearer log queue ended slot slot' id seat v (Waits t) apart h = (h.0, closer t h.1.0 h.1.1 h.1.2)
  where
    closer : (t k : ℕ) → t ≡ ended + k → get_elem? (id ∷ queue) k ≡ some seat → (k : ℕ) × (t ≡ suc ended + k) ×
        (get_elem? queue k ≡ some seat)
    closer t zero is e = absurd (apart (sym (some-injective _ _ e)))
    closer t (suc k) is e = (k, omega arith, e)
nearer log queue ended slot slot' id seat v (Holds t) apart h = absurd (not_front (id ∷ queue) id seat apart refl
    (at_front (id ∷ queue) ended t h.0.1.0 seat h.0.1.1 h.1 h.0.1.2))

-- a queue with this seat at its front
begins : (queue : List ℕ) (id : ℕ) → get_elem? queue 0 ≡ some id → (rest : List ℕ) × (queue ≡ id ∷ rest)
begins [] id e = absurd (some-ne-none id (sym e))
begins (x ∷ xs) id e = (xs, ap (λ y. y ∷ xs) (some-injective x id e))

ends_with : {T E : Type 0} (list : T → List E) (fit : T → Type 0) (seats slots id : ℕ) (v : View E) (x : T) (t : ℕ) →
    v.stage ≡ Holds t → list x ≡ v.seen → fit x
    → Allows (IsKept list fit seats) slots id (v, (0, x) ∷ []) 1 (λ n. (n + 1) % 2 ^ 64)
    (ended_turn (step slots 1 1 0 none) (v, (0, x) ∷ []))
ends_with {T} {E} list fit seats slots id v x t stage has fine s k len at fits =
    let h = holding list fit seats s k id v t at stage in
    let old = k.each id v at in
    let q = begins k.queue id (at_front k.queue k.ended t h.0.1.0 id h.0.1.1 h.1 h.0.1.2) in
    let w : View E = view v.seen v.made v.seats Idle in
    let shorter : length k.queue ≡ suc (length q.0) = ap length q.1 in
    let words : slice_set s.words 1 ((slice_index s.words 1 + 1) % 2 ^ 64) ≡ ((suc k.ended + length q.0) % 2 ^ 64)
    ∷ (suc k.ended % 2 ^ 64) ∷ length k.log ∷ [] =
    ap (λ ws. slice_set ws 1 ((slice_index ws 1 + 1) % 2 ^ 64)) k.words
    ∙ ap (λ n. n % 2 ^ 64 ∷ ((k.ended % 2 ^ 64 + 1) % 2 ^ 64) ∷ length k.log ∷ [])
    (let e : k.ended + length k.queue ≡ suc k.ended + length q.0 = omega arith in e)
    ∙ ap (λ n. ((suc k.ended + length q.0) % 2 ^ 64) ∷ n ∷ length k.log ∷ []) (mod_step k.ended 1 (2 ^ 64) ∙
    ap (λ n. n % 2 ^ 64) (let e : k.ended + 1 ≡ suc k.ended = omega arith in e)) in (
      w,
      gives,
      tt,
      changed list fit seats s k id v w at k.log q.0 (suc k.ended)
          (some x) _ _ words (ap (λ hs. slice_set hs 0 (some x)) k.homes)
          (has ∙ h.2, fine)
          (λ j u apart e f. record {
            seen = f.seen;
            made = f.made;
            stands = nearer k.log q.0 k.ended k.slot (some x) id
                j u u.stage apart (subst (λ l. Stands k.log l k.ended k.slot j u u.stage) q.1 f.stands);
            joined =
                f.joined;
            heard = f.heard;
          })
          record { seen = old.seen; made = old.made; stands = tt; joined = old.joined; heard = tt }
          k.none_else
          refl
          (let z : tickets_of v ≡ 1 = ap tickets stage in omega arith)
          refl,
      (refl, refl),
    )

pub ends : {T E : Type 0} (list : T → List E) (fit : T → Type 0) (seats slots id : ℕ) (v : View E) (c : List (ℕ × T))
    (x : T) (t : ℕ) → v.stage ≡ Holds t → c ≡ (0, x) ∷ [] → list x ≡ v.seen → fit x
    → Allows (IsKept list fit seats) slots id (v, c) 1 (λ n. (n + 1) % 2 ^ 64)
    (ended_turn (step slots 1 1 0 none) (v, c))
ends list fit seats slots id v c x t stage held has fine =
    subst (λ l. Allows (IsKept list fit seats) slots id (v, l) 1 (λ n. (n + 1) % 2 ^ 64)
    (ended_turn (step slots 1 1 0 none) (v, l))) (sym held) (ends_with list fit seats slots id v x t stage has fine)

-- the last of a longer list
at_end : {A : Type 0} (l : List A) (a b : A) (j : ℕ) → get_elem? (l ++ a ∷ []) j ≡ some b → (get_elem? l j ≡ some b) ⊎
    ((j ≡ length l) × (a ≡ b))
at_end [] a b zero e = inr (refl, some-injective a b e)
at_end [] a b (suc j) e = absurd (some-ne-none b (sym e))
at_end (x ∷ xs) a b zero e = inl e
at_end (x ∷ xs) a b (suc j) e = ⊎_elim (λ (t : get_elem? xs j ≡ some b). inl t) (λ (t : (j ≡ length xs) × (a ≡ b)).
    inr (ap suc t.0, t.1)) (at_end xs a b j e)

rests_longer : {T E : Type 0} (list : T → List E) (fit : T → Type 0) (log : List (ℕ × E)) (views more : List (View E))
    (slot : Option T) → Rests list fit log views slot → Rests list fit log (views ++ more) slot
rests_longer list fit log views more (some x) h = h
rests_longer list fit log views more none h = (h.0, h.1, h.2, at_longer views more h.0 h.1 h.3, h.4)

-- a seat with other seats that it stands for stands as before
stands_for : {S E : Type 0} (log : List (ℕ × E)) (queue : List ℕ) (ended : ℕ) (slot : Option S) (seat : ℕ)
    (v w : View E) (stage : Stage) → 1 ≤ w.seats → w.seen ≡ v.seen
    → Stands log queue ended slot seat v stage → Stands log queue ended slot seat w stage
stands_for log queue ended slot seat v w Idle live same h = tt
stands_for log queue ended slot seat v w (Waits t) live same h = (live, h.1)
stands_for log queue ended slot seat v w (Holds t) live same h = ((live, h.0.1), h.1, same ∙ h.2, h.3)

pub splits : {T E : Type 0} (list : T → List E) (fit : T → Type 0) (seats id : ℕ) (v : View E) → 1 < v.seats →
    Splits (IsKept list fit seats) id v (kept_seats v) (new_seat v)
splits {T} {E} list fit seats id v spare s k at =
    let left : View E = kept_seats v in
    let right : View E = new_seat v in
    let old = k.each id v at in
    let live : 1 ≤ left.seats = omega arith in
    let now : List (View E) = set s.views id left in
    let long : length now ≡ length s.views = length-set s.views id left in
    let each : (j : ℕ) (u : View E) → get_elem? now j ≡ some u → Fits k.log k.queue k.ended k.slot j u =
    each_set (Fits k.log k.queue k.ended k.slot) s.views id left (λ j u apart e. k.each j u e)
    record {
      seen = old.seen;
      made = old.made;
      stands = stands_for k.log k.queue k.ended k.slot id v left v.stage live
          refl old.stands;
      joined = (λ e. absurd (omega arith));
      heard = tt;
    } in
    record {
      log = k.log;
      queue = k.queue;
      ended = k.ended;
      slot = k.slot;
      few = k.few;
      words = k.words;
      homes = k.homes;
      rests = rests_longer list fit k.log now (right ∷ []) k.slot (still_rests list fit k.log s.views id v left k.slot
          at (inl refl) k.rests);
      each = (λ j u e. ⊎_elim
          (λ (t : get_elem? now j ≡ some u). each j u t)
          (λ (t : (j ≡ length now) × (right ≡ u)). subst (Fits k.log k.queue k.ended k.slot j) t.1
          (fresh j (t.0 ∙ long)))
          (at_end now right u j e));
      none_else = (λ j far. k.none_else j (let l = length-append now (right ∷ []) in omega arith));
      all_seats = (let a = total_more seats_of now right in let t = total_set seats_of s.views id v left at in
          let b = k.all_seats in omega arith);
      all_tickets = (let a = total_more tickets_of now right in let t = total_set tickets_of s.views id v left at in
          let b = k.all_tickets in omega arith);
      all_made = (let a = total_more made_of now right in let t = total_set made_of s.views id v left at in
          let b = k.all_made in omega arith);
    }
  where
    fresh : (j : ℕ) → j ≡ length s.views → Fits k.log k.queue k.ended k.slot j (new_seat v)
    fresh j is = record {
      seen = (k.each id v at).seen;
      made = sym (k.none_else j (omega arith));
      stands = tt;
      joined = (λ _. refl);
      heard = tt;
    }

-- a seat stands as before in a log with the same entries
same_entries : {S E : Type 0} (log other : List (ℕ × E)) (queue : List ℕ) (ended : ℕ) (slot : Option S) (seat : ℕ)
    (v : View E) (stage : Stage) → entries other ≡ entries log
    → Stands log queue ended slot seat v stage → Stands other queue ended slot seat v stage
same_entries log other queue ended slot seat v Idle same h = tt
same_entries log other queue ended slot seat v (Waits t) same h = h
same_entries log other queue ended slot seat v (Holds t) same h = (h.0, h.1, h.2 ∙ sym same, h.3)

same_rests : {T E : Type 0} (list : T → List E) (fit : T → Type 0) (log other : List (ℕ × E)) (views : List (View E))
    (slot : Option T) → entries other ≡ entries log → Rests list fit log views slot → Rests list fit other views slot
same_rests list fit log other views (some x) same h = (h.0 ∙ sym same, h.1)
same_rests list fit log other views none same h = h

pub joins : {T E : Type 0} (list : T → List E) (fit : T → Type 0) (seats id : ℕ) (v : View E) (other : ℕ) (w : View E) →
    v.stage ≡ Idle → w.stage ≡ Idle → Joins (IsKept list fit seats) id v other w (joined_views v w) spent
joins {T} {E} list fit seats id v other w idle idle' s k at apart there' =
    let both : View E = joined_views v w in
    let now : List (View E) = set s.views id both in
    let at' : get_elem? s.views other ≡ some w = sym (set_else s.views id other both apart) ∙ there' in
    let mine = k.each id v at in
    let theirs = k.each other w at' in
    let log : List (ℕ × E) = renamed other id k.log in
    let same : entries log ≡ entries k.log = entries-renamed other id k.log in
    let apart' : id ≢ other = λ e. apart (sym e) in
    let F : ℕ → View E → Type 0 = Fits log k.queue k.ended k.slot in
    let joined : F id both = record {
      seen = subst (IsPrefix both.seen) (sym same) (longer_prefix v.seen w.seen (entries k.log) mine.seen theirs.seen);
      made = (λ i. merged (theirs.made i) (mine.made i)) ∙ sym (owned-renamed_to other id 0 k.log apart');
      stands = subst (Stands log k.queue k.ended k.slot id both) (sym idle) tt;
      joined = (λ e. (λ i. merged (theirs.joined (let z : v.seats + w.seats ≡ 0 = e in omega arith) i)
          (mine.joined (let z : v.seats + w.seats ≡ 0 = e in omega arith) i)));
      heard = (subst (IsPrefix v.seen) (sym same) mine.seen, (subst (IsPrefix w.seen) (sym same) theirs.seen, tt));
    } in
    let gone : F other spent = record {
      seen = (entries log, refl);
      made = sym (owned-renamed_from other id 0 k.log
          apart');
      stands = tt;
      joined = (λ _. refl);
      heard = tt;
    } in
    let each : (j : ℕ) (u : View E) → get_elem? (set now other spent) j ≡ some u → F j u =
    each_set F now other spent
    (λ j u off e. each_two j u off (at_set s.views id j both u e) joined)
    gone in
    let m = length-merged w.made v.made in
    record {
      log = log;
      queue = k.queue;
      ended = k.ended;
      slot = k.slot;
      few = k.few;
      words = k.words ∙ ap (λ n. ((k.ended + length k.queue) % 2 ^ 64) ∷ (k.ended % 2 ^ 64) ∷ n ∷ [])
          (sym (length-renamed other id k.log));
      homes = k.homes;
      rests = same_rests list fit k.log log _ k.slot same (still_rests list fit k.log now other w spent k.slot there'
          (inr idle') (still_rests list fit k.log s.views id v both k.slot at (inl refl) k.rests));
      each = each;
      none_else = (λ j far.
          let l = length-set s.views id both in let l' = length-set now other spent in let a = there s.views id v at in
          let b = there s.views other w at' in
          owned-renamed_else other id j 0 k.log (λ e. omega arith) (λ e. omega arith) ∙ k.none_else j (omega arith));
      all_seats = (let a = total_set seats_of s.views id v both at in
          let b = total_set seats_of now other w spent there' in let t = k.all_seats in omega arith);
      all_tickets = (let a = total_set tickets_of s.views id v both at in
          let b = total_set tickets_of now other w spent there' in let t = k.all_tickets in
          let z : tickets_of w ≡ 0 = ap tickets idle' in omega arith);
      all_made = (let a = total_set made_of s.views id v both at in
          let b = total_set made_of now other w spent there' in let t = k.all_made in
          let r = length-renamed other id k.log in omega arith);
    }
  where
    each_two : (j : ℕ) (u : View E) → j ≢ other → ((j ≡ id) × (joined_views v w ≡ u)) ⊎
        ((j ≢ id) × (get_elem? s.views j ≡ some u)) → Fits (renamed other id k.log) k.queue k.ended k.slot id
        (joined_views v w)
        → Fits (renamed other id k.log) k.queue k.ended k.slot j u
    each_two j u off how joined = ⊎_elim
        (λ (t : (j ≡ id) × (joined_views v w ≡ u)). subst (λ (y : ℕ × View E). Fits (renamed other id k.log) k.queue
        k.ended k.slot y.0 y.1) (λ i. (sym t.0 i, t.1 i)) joined)
        (λ (t : (j ≢ id) × (get_elem? s.views j ≡ some u)).
        let f = k.each j u t.1 in
        let same = entries-renamed other id k.log in
        record {
          seen = subst (IsPrefix u.seen) (sym same) f.seen;
          made = f.made ∙ sym (owned-renamed_else other id j 0 k.log off t.0);
          stands = same_entries k.log (renamed other id k.log) k.queue k.ended k.slot j u u.stage same f.stands;
          joined = f.joined;
          heard = subst (AllBegin u.heard) (sym same) f.heard;
        })
        how

-- the cell at its start
pub starts : {T E : Type 0} (list : T → List E) (fit : T → Type 0) (seats : ℕ) (x : T) → list x ≡ [] → fit x →
    seats < 4294967296 → IsKept list fit seats (opening (0 ∷ 0 ∷ 0 ∷ []) (x ∷ []) (first_view seats))
starts {T} {E} list fit seats x empty fine few = record {
  log = [];
  queue = [];
  ended = 0;
  slot = some x;
  few = few;
  words = refl;
  homes = refl;
  rests = (empty, fine);
  each = one;
  none_else = (λ j far. refl);
  all_seats = (let z : seats + 0 ≡ seats = omega arith in z);
  all_tickets = refl;
  all_made = refl;
}
  where
    one : (seat : ℕ) (v : View E) → get_elem? (first_view {E = E} seats ∷ []) seat ≡ some v → Fits [] [] 0 (some x) seat
        v
    one zero v e = subst (Fits [] [] 0 (some x) zero) (some-injective _ _ e) record {
      seen = ([], refl);
      made = refl;
      stands = tt;
      joined = (λ _. refl);
      heard = tt;
    }
    one (suc j) v e = absurd (some-ne-none v (sym e))

-- a look that tells what was heard
pub tells : {T E : Type 0} (list : T → List E) (fit : T → Type 0) (seats slots id : ℕ) (v : View E) (c : List (ℕ × T)) →
    Allows (IsKept list fit seats) slots id (v, c) 0 (λ n. n) (told (step slots 0 0 0 none) (v, c))
tells {T} {E} list fit seats slots id v c s k len at fits =
    let w : View E = view v.seen v.made v.seats v.stage in
    let old = k.each id v at in (
      w,
      keeps,
      tt,
      changed list fit seats s k id v w at k.log k.queue k.ended k.slot _ _
          (ap (λ ws. slice_set ws 0 (slice_index ws 0)) k.words)
          k.homes
          (still_rests list fit k.log s.views id v w k.slot at (inl refl) k.rests)
          (λ j u apart e f. f)
          record {
            seen = old.seen;
            made = old.made;
            stands = other_notes k.log k.queue k.ended k.slot id v w v.stage
                refl refl old.stands;
            joined = old.joined;
            heard = tt;
          }
          k.none_else
          refl
          refl
          refl,
      (
        refl,
        refl,
        (let a = total_has seats_of s.views id v at in let b = k.all_seats in let d = k.few in
            omega arith),
        (entries k.log, old.seen, old.heard),
      ),
    )
  where
    other_notes : {S : Type 0} (log : List (ℕ × E)) (queue : List ℕ) (ended : ℕ) (slot : Option S) (seat : ℕ)
        (v w : View E) (stage : Stage) → w.seats ≡ v.seats → w.seen ≡ v.seen
        → Stands log queue ended slot seat v stage → Stands log queue ended slot seat w stage
    other_notes log queue ended slot seat v w Idle a b h = tt
    other_notes log queue ended slot seat v w (Waits t) a b h = (subst (λ n. 1 ≤ n) (sym a) h.0, h.1)
    other_notes log queue ended slot seat v w (Holds t) a b h = (
      (subst (λ n. 1 ≤ n) (sym a) h.0.0, h.0.1),
      h.1,
      b ∙
          h.2,
      h.3,
    )

-- the cell at its end, seen by a seat that has all seats
pub record Closing {T E : Type 0} (list : T → List E) (fit : T → Type 0) (v : View E) (xs : List T) : Type 0 where
  pub value : T
  pub there : get_elem? xs 0 ≡ some value
  pub made : v.made ≡ numbered 0 (list value)
  pub seen : IsPrefix v.seen (list value)
  pub fits : fit value

pub closes : {T E : Type 0} (list : T → List E) (fit : T → Type 0) (seats id : ℕ) (v : View E) (ws : List ℕ)
    (xs : List T) → v.stage ≡ Idle → v.seats ≡ seats → Final (Seen (IsKept list fit seats) id v) ws xs →
    Closing list fit v xs
closes {T} {E} list fit seats id v ws xs idle whole (s, (k, at), _, _, values) = by_slot k.slot refl
  where
    alone : (j : ℕ) (u : View E) → j ≢ id → get_elem? s.views j ≡ some u → u.seats ≡ 0
    alone j u apart e = let a = total_two seats_of s.views j id u v apart e at in let b = k.all_seats in omega arith

    made_all : length v.made ≡ length k.log
    made_all = sym (total_one made_of s.views id v at (λ j u apart e.
        ap length ((k.each j u e).joined (alone j u apart e)))) ∙ k.all_made

    by_slot : (slot : Option T) → k.slot ≡ slot → Closing list fit v xs
    by_slot (some x) is =
        let r = subst (Rests list fit k.log s.views) is k.rests in
        let has : list x ≡ entries k.log = r.0 in
        let mine = (k.each id v at).made in
        record {
          value = x;
          there = values 0 x (ap (λ hs. get_elem? hs 0) k.homes ∙ ap some is);
          made = mine ∙ owned_whole id 0 k.log (sym (ap length mine) ∙ made_all) ∙ ap (numbered 0) (sym has);
          seen = subst (IsPrefix v.seen) (sym has) (k.each id v at).seen;
          fits = r.1;
        }
    by_slot none is =
        let away = subst (Rests list fit k.log s.views) is k.rests in
        dite (ℕ_discrete away.0 id)
        (λ same. let one : v ≡ away.1 = some-injective _ _ (sym at ∙ ap (get_elem? s.views) (sym same) ∙ away.3) in
        let clash : Idle ≡ Holds away.2 = sym idle ∙ ap (λ (u : View E). u.stage) one ∙ away.4 in absurd (cc))
        (λ apart. let h = holding list fit seats s k away.0 away.1 away.2 away.3 away.4 in let live = h.0.0 in
        let z = alone away.0 away.1 apart away.3 in absurd (omega arith))
