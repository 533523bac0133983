-- A transaction that is the only one that puts pages, over the states of a log.
use Rattle.std.proofs.Common.{◌≡◌, ◌<◌, ◌≤◌, ℕ, ◌+◌, ◌*◌, ◌-◌, List, [], ◌∷◌, ◌++◌, length, take, drop, refl, sym, ◌∙◌, ap, inr, arith, get_or, set, length-append}
use Rattle.std.specs.Prelude.{Bool, true, false, ◌==◌, if◌then◌else◌}
use Rattle.std.proofs.lemmas.Bool.Decides.{nat_tests}
use Rattle.std.proofs.lemmas.List.{take-append-drop, get_or-set_same, set-set, set-get_or}
use Rattle.disk_layout.specs.declared.entry.Entry.{Entry}
use Rattle.disk_layout.specs.Places.{in_place}
use Rattle.disk_layout.specs.Pages.{redone, HasWhole}
use Rattle.disk_layout.proofs.Pages.{firsts_all, redone-append}
use Rattle.disk_log.specs.Contents.{Contents, page_in, stage_in, last_stage}
use Rattle.disk_log.specs.Puts.{page_of, overlaid, without, without_page, count_of, IsOwn, run_of}
use Rattle.disk_log.specs.State.{State, IsOpen, HasNoOpen, HasRoom, MayPut, begun, closed, ended, with_put, free_in}
use Rattle.disk_log.specs.declared.put.Put.{Put}
use Rattle.disk_log.proofs.Emptying.{no_puts}
use Rattle.disk_log.proofs.Room.{length_run}
use Rattle.disk_classes.specs.Commit.{IsOnlyTx, PutsIn}

same_test : (a b : ℕ) → (a == b) ≡ true → a ≡ b
same_test a b is = grind (arith, nat_tests)

-- where all puts are of one transaction, each page is its own
pub own_alone : (slot page : ℕ) (puts : List Put) → without slot puts ≡ [] → IsOwn slot page puts
own_alone slot page [] alone = tt
own_alone slot page (put ∷ puts) alone = by (put.slot == slot) refl alone (λ rest. own_alone slot page puts rest)
  where
    by : (mine : Bool) → (put.slot == slot) ≡ mine → (if mine then without slot puts else put ∷ without slot puts) ≡ [] → (without slot puts ≡ [] → IsOwn slot page puts)
        → (put.page ≡ page → put.slot ≡ slot) × IsOwn slot page puts
    by true e is rest = (λ same. same_test put.slot slot e, rest is)
    by false e is rest = absurd (let f = ap length is in omega (arith, f))

-- one more put counts at most one more
step_out : (mine : Bool) (x c : ℕ) → x ≤ c + 1 → x ≤ (if mine then c + 1 else c) + 1
step_out true x c le = omega arith
step_out false x c le = le

step_in : (mine : Bool) (x c : ℕ) → x ≤ c + 1 → (if mine then x + 1 else x) ≤ (if mine then c + 1 else c) + 1
step_in true x c le = omega arith
step_in false x c le = le

count_one : (mine : Bool) → (if mine then 0 + 1 else 0) ≤ 1
count_one true = omega arith
count_one false = omega arith

count_put : (slot : ℕ) (put : Put) (puts : List Put) → count_of slot (without_page put.page puts ++ put ∷ []) ≤ count_of slot puts + 1
count_put slot put [] = count_one (put.slot == slot)
count_put slot put (head ∷ puts) = by (head.page == put.page) (count_put slot put puts)
  where
    by : (here : Bool) → count_of slot (without_page put.page puts ++ put ∷ []) ≤ count_of slot puts + 1
        → count_of slot ((if here then without_page put.page puts else head ∷ without_page put.page puts) ++ put ∷ []) ≤ count_of slot (head ∷ puts) + 1
    by true le = step_out (head.slot == slot) _ (count_of slot puts) le
    by false le = step_in (head.slot == slot) _ (count_of slot puts) le

-- and is of the same transaction
alone_last : (slot : ℕ) (put : Put) → put.slot ≡ slot → without slot (put ∷ []) ≡ []
alone_last slot put is = by (put.slot == slot) refl
  where
    by : (b : Bool) → (put.slot == slot) ≡ b → (if b then [] else put ∷ []) ≡ []
    by true e = refl
    by false e = absurd (grind (arith, nat_tests, e, is))

alone_put : (slot : ℕ) (put : Put) (puts : List Put) → put.slot ≡ slot → without slot puts ≡ [] → without slot (without_page put.page puts ++ put ∷ []) ≡ []
alone_put slot put [] is alone = alone_last slot put is
alone_put slot put (head ∷ puts) is alone = by (head.page == put.page) (head.slot == slot) refl alone (λ rest. alone_put slot put puts is rest)
  where
    by : (here mine : Bool) → (head.slot == slot) ≡ mine → (if mine then without slot puts else head ∷ without slot puts) ≡ [] → (without slot puts ≡ [] → without slot (without_page put.page puts ++ put ∷ []) ≡ [])
        → without slot ((if here then without_page put.page puts else head ∷ without_page put.page puts) ++ put ∷ []) ≡ []
    by true true e all rest = rest all
    by true false e all rest = absurd (let f = ap length all in omega (arith, f))
    by false true e all rest = (λ j. if e j then without slot (without_page put.page puts ++ put ∷ []) else head ∷ without slot (without_page put.page puts ++ put ∷ [])) ∙ rest all
    by false false e all rest = absurd (let f = ap length all in omega (arith, f))

-- the next page of so many
pub may_put : (old now : State) (slot page n i : ℕ) → IsOnlyTx slot n old → PutsIn slot i old now → i < n → MayPut now slot page
may_put old now slot page n i only puts lt =
    let few = only.few in
    let so_far = puts.few in
    let same : get_or now.reservations slot 0 ≡ get_or old.reservations slot 0 = ap (λ (s : State). get_or s.reservations slot 0) puts.rest in
    (omega (arith, few, same), own_alone slot page now.puts puts.alone, inr (omega (arith, few, so_far, same, lt)))

pub puts_none : (state : State) (slot n : ℕ) → IsOnlyTx slot n state → PutsIn slot 0 state state
puts_none state slot n only = record { rest = refl; alone = only.alone; few = omega arith }

pub puts_more : (old now new : State) (slot i : ℕ) (put : Put) → put.slot ≡ slot → PutsIn slot i old now → new ≡ with_put now put → PutsIn slot (i + 1) old new
puts_more old now new slot i put is puts more = record {
  rest = more ∙ ap (λ (s : State). with_put s put) puts.rest ∙ (λ j. record old { puts = sym puts_is j });
  alone = ap (without slot) puts_is ∙ alone_put slot put now.puts is puts.alone;
  few = (let e = ap (count_of slot) puts_is in let f = count_put slot put now.puts in let g = puts.few in omega (arith, e, f, g));
}
  where
    puts_is : new.puts ≡ without_page put.page now.puts ++ put ∷ []
    puts_is = ap (λ (s : State). s.puts) more

pub puts_then : (old mid new : State) (slot i j : ℕ) → PutsIn slot i old mid → PutsIn slot j mid new → PutsIn slot (i + j) old new
puts_then old mid new slot i j first second = record {
  rest = second.rest ∙ (λ k. record (first.rest k) { puts = new.puts });
  alone = second.alone;
  few = (let e = first.few in let f = second.few in omega (arith, e, f));
}

-- a transaction that put so many pages may put the rest
pub only_left : (old mid : State) (slot i n : ℕ) → IsOnlyTx slot (i + n) old → PutsIn slot i old mid → IsOnlyTx slot n mid
only_left old mid slot i n only puts = record {
  alone = puts.alone;
  few =
      let few = only.few in
      let so_far = puts.few in
      let same : get_or mid.reservations slot 0 ≡ get_or old.reservations slot 0 = ap (λ (s : State). get_or s.reservations slot 0) puts.rest in
      omega (arith, few, so_far, same);
}

pub only_fewer : (state : State) (slot m n : ℕ) → m ≤ n → IsOnlyTx slot n state → IsOnlyTx slot m state
only_fewer state slot m n le only = record { alone = only.alone; few = (let few = only.few in omega (arith, few, le)) }

-- A transaction begins where none is open, puts pages, and ends or is undone.
module _ (start begin_state now : State) (room : HasRoom start) (none : HasNoOpen start) (slot n : ℕ) (lt : slot < length start.reservations)
    (is : begin_state ≡ begun start slot (2 * n + 1)) where
  pub only_begun : IsOnlyTx slot n begin_state
  only_begun = record {
    alone = ap (λ (s : State). without slot s.puts) is ∙ ap (without slot) (no_puts start room none);
    few =
        let e : get_or begin_state.reservations slot 0 ≡ 2 * n + 1 = ap (λ (s : State). get_or s.reservations slot 0) is ∙ get_or-set_same start.reservations slot (2 * n + 1) 0 lt in
        let f : count_of slot begin_state.puts ≡ 0 = ap (λ (s : State). count_of slot s.puts) is ∙ ap (count_of slot) (no_puts start room none) in
        omega (arith, e, f);
  }

  module _ (puts : PutsIn slot n begin_state now) where
    now_is : now ≡ record (begun start slot (2 * n + 1)) { puts = now.puts }
    now_is = puts.rest ∙ (λ j. record (is j) { puts = now.puts })

    reservations_now : now.reservations ≡ set start.reservations slot (2 * n + 1)
    reservations_now = ap (λ (s : State). s.reservations) now_is

    pub opened : IsOpen now slot
    opened = let e : get_or now.reservations slot 0 ≡ 2 * n + 1 = ap (λ (l : List ℕ). get_or l slot 0) reservations_now ∙ get_or-set_same start.reservations slot (2 * n + 1) 0 lt in omega (arith, e)

    reservations_back : set now.reservations slot 0 ≡ start.reservations
    reservations_back =
        ap (λ (l : List ℕ). set l slot 0) reservations_now
        ∙ set-set start.reservations slot (2 * n + 1) 0
        ∙ ap (set start.reservations slot) (sym (none slot))
        ∙ set-get_or start.reservations slot 0

    reserved_back : now.reserved - get_or now.reservations slot 0 ≡ start.reserved
    reserved_back =
        let e : get_or now.reservations slot 0 ≡ 2 * n + 1 = ap (λ (l : List ℕ). get_or l slot 0) reservations_now ∙ get_or-set_same start.reservations slot (2 * n + 1) 0 lt in
        let f : now.reserved ≡ start.reserved + (2 * n + 1) = ap (λ (s : State). s.reserved) now_is in
        omega (arith, e, f)

    pub undone_back : closed now slot ≡ start
    undone_back = λ j. record {
      superblock = (now_is j).superblock;
      half = (now_is j).half;
      entries = (now_is j).entries;
      forced = (now_is j).forced;
      puts = (puts.alone ∙ sym (no_puts start room none)) j;
      reservations = reservations_back j;
      reserved = reserved_back j;
    }

    pub none_after : HasNoOpen (ended now slot)
    none_after other = ap (λ (l : List ℕ). get_or l other 0) reservations_back ∙ none other

    pub free_after : free_in start ≤ free_in (ended now slot) + n + 1
    free_after =
        let e : now.entries ≡ start.entries = ap (λ (s : State). s.entries) now_is in
        let f = length-append now.entries (run_of slot (length now.entries) now.puts) in
        let g = length_run slot (length now.entries) now.puts in
        let h : count_of slot begin_state.puts ≡ 0 = ap (λ (s : State). count_of slot s.puts) is ∙ ap (count_of slot) (no_puts start room none) in
        let few = puts.few in
        let back = reserved_back in
        let size : length now.entries ≡ length start.entries = ap length e in
        omega (arith, f, g, h, few, back, size)

-- where no transaction is open, the last stage is what the pages are
pub last_page : (state : State) (image : List ℕ) (p : ℕ) → HasRoom state → HasNoOpen state → HasWhole (take state.forced state.entries) (drop state.forced state.entries) image
    → (let told : Contents = record { state = state; image = image } in stage_in told (last_stage told) p ≡ page_in told p)
unfolding page_of
last_page state image p room none whole =
    let held = take state.forced state.entries in
    let news = drop state.forced state.entries in
    ap (λ (l : List Entry). redone l (λ (q : ℕ). redone held (in_place image) q) p) (firsts_all news (λ (q : ℕ). redone held (in_place image) q) (length held) whole.ended)
    ∙ sym (redone-append held news (in_place image) p)
    ∙ ap (λ (l : List Entry). redone l (in_place image) p) (take-append-drop state.forced state.entries)
    ∙ ap (λ (l : List Put). overlaid l (λ (q : ℕ). redone state.entries (in_place image) q) p) (sym (no_puts state room none))
