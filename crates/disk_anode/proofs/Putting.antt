-- Pages that a transaction may put.
use Rattle.std.proofs.Common.{◌≡◌, ◌≢◌, ◌<◌, ◌≤◌, ◌⊎◌, ℕ, ◌+◌, ◌-◌, ◌*◌, length, List, [], ◌∷◌, ◌++◌, refl, sym, ◌∙◌, subst, inl, inr, arith, get_or}
use Rattle.std.specs.Prelude.{Bool, true, false, ◌==◌, ◌&&◌, ◌||◌, not, nat_le, if◌then◌else◌}
use Rattle.std.proofs.lemmas.Bool.{cases_eq}
use Rattle.std.proofs.lemmas.List.{get_or-set_same}
use Rattle.std.proofs.lemmas.Bool.Decides.{nat_tests}
use Rattle.disk_log.specs.declared.put.Put.{Put}
use Rattle.disk_log.specs.Puts.{count_of, is_put, IsOwn, without, without_page}
use Rattle.disk_log.specs.State.{State, MayPut, with_put, begun}
use Rattle.disk_anode.specs.Room.{one, how_many, with_counts, MayPutAll, PutsPages}
use Rattle.disk_anode.proofs.Counting.{same_many, many_but, many_le, one_of_many, single_many, or_many, above_many}

same_test : (a b : ℕ) → (a == b) ≡ true → a ≡ b
same_test a b is = grind (arith, nat_tests)

pub test_same : (a b : ℕ) → a ≡ b → (a == b) ≡ true
test_same a b is = grind (arith, nat_tests)

test_other : (a b : ℕ) → a ≢ b → (a == b) ≡ false
test_other a b apart = grind (arith, nat_tests)

other_test : (a b : ℕ) → (a == b) ≡ false → a ≢ b
other_test a b is = λ e. absurd (grind (arith, nat_tests, is, e))

-- one of the pages
pub may_one : (pages : ℕ → Bool) (state : State) (slot p : ℕ) → MayPutAll pages state slot → pages p ≡ true → p < state.half.pages → MayPut state slot p
may_one pages state slot p may is lt = (may.opened, may.own p lt is, by (is_put slot p state.puts) refl)
  where
    by : (put : Bool) → is_put slot p state.puts ≡ put → (is_put slot p state.puts ≡ true) ⊎ (2 * count_of slot state.puts + 2 < get_or state.reservations slot 0)
    by true e = inl e
    by false e =
        let some = one_of_many (λ q. pages q && not (is_put slot q state.puts)) p state.half.pages lt (λ i. is i && not (e i)) in
        let room = may.room in
        inr (omega (arith, some, room))

-- fewer pages
and_left : (a b c : Bool) → (a ≡ true → b ≡ true) → (a && c) ≡ true → (b && c) ≡ true
and_left true b c wider is = (λ i. wider refl i && c) ∙ is
and_left false b c wider is = absurd (grind (arith, is))

pub may_fewer : (pages wider : ℕ → Bool) (state : State) (slot : ℕ) → ((p : ℕ) → pages p ≡ true → wider p ≡ true) → MayPutAll wider state slot → MayPutAll pages state slot
may_fewer pages wider state slot fewer may =
    let le = many_le (λ q. pages q && not (is_put slot q state.puts)) (λ q. wider q && not (is_put slot q state.puts)) state.half.pages (λ q lt is. and_left (pages q) (wider q) (not (is_put slot q state.puts)) (fewer q) is) in
    let room = may.room in
    record {
      opened = may.opened;
      own = λ p lt is. may.own p lt (fewer p is);
      room = omega (arith, le, room);
    }

-- the counts of puts after another
count_push : (slot : ℕ) (puts : List Put) (last : Put) → (last.slot == slot) ≡ true → count_of slot (puts ++ last ∷ []) ≡ count_of slot puts + 1
count_push slot [] last mine = λ i. if mine i then 1 else 0
count_push slot (put ∷ puts) last mine = by (put.slot == slot) (count_push slot puts last mine)
  where
    by : (first : Bool) → count_of slot (puts ++ last ∷ []) ≡ count_of slot puts + 1
        → (if first then count_of slot (puts ++ last ∷ []) + 1 else count_of slot (puts ++ last ∷ [])) ≡ (if first then count_of slot puts + 1 else count_of slot puts) + 1
    by true rest = omega (arith, rest)
    by false rest = rest

count_first : (slot : ℕ) (put : Put) (puts : List Put) → count_of slot (put ∷ puts) ≡ count_of slot puts + one (put.slot == slot)
count_first slot put puts = by (put.slot == slot)
  where
    by : (mine : Bool) → (if mine then count_of slot puts + 1 else count_of slot puts) ≡ count_of slot puts + one mine
    by true = refl
    by false = omega arith

count_page_le : (slot page : ℕ) (puts : List Put) → count_of slot (without_page page puts) ≤ count_of slot puts
count_page_le slot page [] = omega arith
count_page_le slot page (put ∷ puts) = by (put.page == page) (count_page_le slot page puts)
  where
    by : (here : Bool) → count_of slot (without_page page puts) ≤ count_of slot puts → count_of slot (if here then without_page page puts else put ∷ without_page page puts) ≤ count_of slot (put ∷ puts)
    by true rest = let e = count_first slot put puts in omega (arith, e, rest)
    by false rest = let e = count_first slot put puts in let f = count_first slot put (without_page page puts) in omega (arith, e, f, rest)

count_page_put : (slot page : ℕ) (puts : List Put) → is_put slot page puts ≡ true → count_of slot (without_page page puts) + 1 ≤ count_of slot puts
count_page_put slot page [] is = absurd (grind (arith, is))
count_page_put slot page (put ∷ puts) is = by (put.slot == slot) refl (put.page == page) is (λ later. count_page_put slot page puts later) (count_page_le slot page puts)
  where
    by : (mine : Bool) → (put.slot == slot) ≡ mine → (here : Bool) → ((mine && here) || is_put slot page puts) ≡ true
        → (is_put slot page puts ≡ true → count_of slot (without_page page puts) + 1 ≤ count_of slot puts) → count_of slot (without_page page puts) ≤ count_of slot puts
        → count_of slot (if here then without_page page puts else put ∷ without_page page puts) + 1 ≤ count_of slot (put ∷ puts)
    by true m true h later le =
        let e = count_first slot put puts in let f : one (put.slot == slot) ≡ 1 = (λ i. one (m i)) in omega (arith, e, f, le)
    by true m false h later le =
        let e = count_first slot put puts in let f = count_first slot put (without_page page puts) in let g = later h in omega (arith, e, f, g)
    by false m true h later le = let e = count_first slot put puts in let g = later h in omega (arith, e, g)
    by false m false h later le =
        let e = count_first slot put puts in let f = count_first slot put (without_page page puts) in let g = later h in omega (arith, e, f, g)

-- which pages are put after another
put_here : (slot : ℕ) (puts : List Put) (last : Put) → (last.slot == slot) ≡ true → is_put slot last.page (puts ++ last ∷ []) ≡ true
put_here slot [] last mine = (let page = test_same last.page last.page refl in λ i. (mine i && page i) || false)
put_here slot (put ∷ puts) last mine = by ((put.slot == slot) && (put.page == last.page)) (put_here slot puts last mine)
  where
    by : (first : Bool) → is_put slot last.page (puts ++ last ∷ []) ≡ true → (first || is_put slot last.page (puts ++ last ∷ [])) ≡ true
    by true rest = refl
    by false rest = rest

put_other : (slot q : ℕ) (puts : List Put) (last : Put) → last.page ≢ q → is_put slot q (without_page last.page puts ++ last ∷ []) ≡ is_put slot q puts
put_other slot q [] last apart = (let page = test_other last.page q apart in let e : (b : Bool) → ((b && false) || false) ≡ false = both in (λ i. ((last.slot == slot) && page i) || false) ∙ e (last.slot == slot))
  where
    both : (b : Bool) → ((b && false) || false) ≡ false
    both true = refl
    both false = refl
put_other slot q (put ∷ puts) last apart = by (put.page == last.page) refl (put_other slot q puts last apart)
  where
    gone : (b c : Bool) → ((b && false) || c) ≡ c
    gone true c = refl
    gone false c = refl

    by : (here : Bool) → (put.page == last.page) ≡ here → is_put slot q (without_page last.page puts ++ last ∷ []) ≡ is_put slot q puts
        → is_put slot q ((if here then without_page last.page puts else put ∷ without_page last.page puts) ++ last ∷ []) ≡ (((put.slot == slot) && (put.page == q)) || is_put slot q puts)
    by true e rest =
        let not_here = test_other put.page q (λ is. apart (sym (same_test put.page last.page e) ∙ is)) in
        rest ∙ sym ((λ i. ((put.slot == slot) && not_here i) || is_put slot q puts) ∙ gone (put.slot == slot) (is_put slot q puts))
    by false e rest = λ i. ((put.slot == slot) && (put.page == q)) || rest i

own_put : (slot q : ℕ) (puts : List Put) (last : Put) → last.slot ≡ slot → IsOwn slot q puts → IsOwn slot q (without_page last.page puts ++ last ∷ [])
own_put slot q [] last mine own = ((λ is. mine), tt)
own_put slot q (put ∷ puts) last mine own = by (put.page == last.page) (own_put slot q puts last mine own.1)
  where
    by : (here : Bool) → IsOwn slot q (without_page last.page puts ++ last ∷ []) → IsOwn slot q ((if here then without_page last.page puts else put ∷ without_page last.page puts) ++ last ∷ [])
    by true rest = rest
    by false rest = (own.0, rest)

-- the puts of the other transactions stay
others_put : (slot : ℕ) (puts : List Put) (last : Put) → last.slot ≡ slot → IsOwn slot last.page puts → without slot (without_page last.page puts ++ last ∷ []) ≡ without slot puts
others_put slot [] last mine own = (let e = test_same last.slot slot mine in λ i. if e i then [] else last ∷ [])
others_put slot (put ∷ puts) last mine own = by (put.page == last.page) refl (others_put slot puts last mine own.1)
  where
    by : (here : Bool) → (put.page == last.page) ≡ here → without slot (without_page last.page puts ++ last ∷ []) ≡ without slot puts
        → without slot ((if here then without_page last.page puts else put ∷ without_page last.page puts) ++ last ∷ []) ≡ (if put.slot == slot then without slot puts else put ∷ without slot puts)
    by true e rest = (let f = test_same put.slot slot (own.0 (same_test put.page last.page e)) in rest ∙ (λ i. if sym f i then without slot puts else put ∷ without slot puts))
    by false e rest = λ i. if put.slot == slot then rest i else put ∷ rest i

-- a put of one of the pages
module _ (wider : ℕ → Bool) (state : State) (put : Put) (is : wider put.page ≡ true) (there : put.page < state.half.pages) where
  mine : (put.slot == put.slot) ≡ true
  mine = test_same put.slot put.slot refl

  fewer : (first : Bool) → is_put put.slot put.page state.puts ≡ first →
      count_of put.slot (without_page put.page state.puts ++ put ∷ []) + how_many (λ q. wider q && not (is_put put.slot q (without_page put.page state.puts ++ put ∷ []))) state.half.pages
      ≤ count_of put.slot state.puts + how_many (λ q. wider q && not (is_put put.slot q state.puts)) state.half.pages
  fewer true e =
      let pushed = count_push put.slot (without_page put.page state.puts) put mine in
      let le = count_page_put put.slot put.page state.puts e in
      let same = same_many (λ q. wider q && not (is_put put.slot q (without_page put.page state.puts ++ put ∷ []))) (λ q. wider q && not (is_put put.slot q state.puts)) state.half.pages
      (λ q lt. by q (cases_eq put.page q)) in
      omega (arith, pushed, le, same)
    where
      by : (q : ℕ) → (put.page ≡ q) ⊎ (put.page ≢ q) → (wider q && not (is_put put.slot q (without_page put.page state.puts ++ put ∷ []))) ≡ (wider q && not (is_put put.slot q state.puts))
      by q (inl here) = (let f = put_here put.slot (without_page put.page state.puts) put mine ∙ sym e in λ i. wider q && not ((subst (λ (r : ℕ). is_put put.slot r (without_page put.page state.puts ++ put ∷ []) ≡ is_put put.slot r state.puts) here f) i))
      by q (inr apart) = (let f = put_other put.slot q state.puts put apart in λ i. wider q && not (f i))
  fewer false e =
      let pushed = count_push put.slot (without_page put.page state.puts) put mine in
      let le = count_page_le put.slot put.page state.puts in
      let but = many_but (λ q. wider q && not (is_put put.slot q state.puts)) (λ q. wider q && not (is_put put.slot q (without_page put.page state.puts ++ put ∷ []))) put.page state.half.pages there
      (λ q lt apart. (let f = put_other put.slot q state.puts put (λ s. apart (sym s)) in λ i. wider q && not (sym f i))) in
      let was : one (wider put.page && not (is_put put.slot put.page state.puts)) ≡ 1 = (λ i. one (is i && not (e i))) in
      let now : one (wider put.page && not (is_put put.slot put.page (without_page put.page state.puts ++ put ∷ []))) ≡ 0 = (let h = put_here put.slot (without_page put.page state.puts) put mine in λ i. one (is i && not (h i))) in
      omega (arith, pushed, le, but, was, now)

  may_still : MayPutAll wider state put.slot → MayPutAll wider (with_put state put) put.slot
  may_still may =
      let le = fewer (is_put put.slot put.page state.puts) refl in
      let room = may.room in
      record {
        opened = may.opened;
        own = λ q lt passes. own_put put.slot q state.puts put refl (may.own q lt passes);
        room = omega (arith, le, room);
      }

pub puts_one : (pages : ℕ → Bool) (state new : State) (put : Put) → new ≡ with_put state put → pages put.page ≡ true → put.page < state.half.pages → IsOwn put.slot put.page state.puts → PutsPages pages put.slot state new
puts_one pages state new put e is there own = subst (λ (s : State). PutsPages pages put.slot state s) (sym e) (record {
  rest = refl;
  others = others_put put.slot state.puts put refl own;
  may = λ wider holds may. may_still wider state put (holds put.page is) there may;
})

-- a transaction that has begun where none had put a page
pub may_begun : (pages : ℕ → Bool) (state : State) (slot n : ℕ) → slot < length state.reservations → state.puts ≡ [] → how_many pages state.half.pages ≤ n → MayPutAll pages (begun state slot (2 * n + 1)) slot
may_begun pages state slot n lt none few =
    let needed = get_or-set_same state.reservations slot (2 * n + 1) 0 lt in
    let most = many_le (λ p. pages p && not (is_put slot p state.puts)) pages state.half.pages (λ p below is. and_first (pages p) (not (is_put slot p state.puts)) is) in
    let count : count_of slot state.puts ≡ 0 = (λ i. count_of slot (none i)) in
    record {
      opened = omega (arith, needed);
      own = λ p below is. subst (λ (puts : List Put). IsOwn slot p puts) (sym none) tt;
      room = omega (arith, needed, most, count, few);
    }
  where
    and_first : (a b : Bool) → (a && b) ≡ true → a ≡ true
    and_first true b is = refl
    and_first false b is = is

-- the page of an anode and those of counts
pub counts_many : (page pages : ℕ) → how_many (with_counts page) pages ≤ pages - 1058 + 1
counts_many page pages =
    let both = or_many (λ p. p == page) (λ p. nat_le 1058 p) pages in
    let first = single_many page pages in
    let second = above_many 1058 pages in
    omega (arith, both, first, second)
