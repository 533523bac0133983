-- A class that is committed, call by call.
use Rattle.std.proofs.Common.{◌≡◌, ◌≢◌, ◌<◌, ◌≤◌, ◌⊎◌, ◌∙◌, ℕ, ◌+◌, ◌*◌, List, [], length, get_or, take, refl, sym, ap, subst, inl, inr, arith, Option, Some, None, Ok, Err}
use Rattle.std.specs.Prelude.{Contains, ◌==◌, if◌then◌else◌}
use Rattle.std.proofs.lemmas.Bool.{cases_lt}
use Rattle.std.proofs.lemmas.List.{get_or_past}
use Rattle.std.proofs.lemmas.List.Sums.{sum_by-take-le}
use Rattle.base_types.specs.Faults.{RoseBy}
use Rattle.base_types.specs.View.{View}
use Rattle.base_types.specs.Crash.{IsQuiet}
use Rattle.base_outside.proofs.Runs.{quiet_then}
use Rattle.disk_layout.specs.declared.half.Half.{Half}
use Rattle.disk_log.specs.Begin.{IsBegun}
use Rattle.disk_log.specs.Blame.{IsDiskOrMemory}
use Rattle.disk_log.specs.Contents.{contents_of, over, page_in, Keeps}
use Rattle.disk_log.specs.Log.{disk_of, state_of, IsIdle, IsSoundLog}
use Rattle.disk_log.specs.Puts.{page_of}
use Rattle.disk_log.specs.State.{State, IsOpen, HasNoOpen, closed, ended, with_put, free_in}
use Rattle.disk_log.specs.declared.fault.LogFault.{LogFault}
use Rattle.disk_log.specs.declared.fault.LogFault.TheVariants.{Failed, Full, NotALog, Memory}
use Rattle.disk_log.specs.declared.kept.Tx.{Tx}
use Rattle.disk_log.specs.declared.log.Log.{Log}
use Rattle.disk_log.specs.declared.put.Put.{Put}
use Rattle.disk_classes.specs.Commit.{IsOnlyTx, PutsIn, KeepsStages, CommitsClass}
use Rattle.disk_classes.specs.Notes.{noted_at, class_of, pages_by, pages_in_class, AreValues, AreWithin, IsPutIn}
use Rattle.disk_classes.specs.declared.member.Noted.{Noted as Kept}
use Rattle.disk_classes.specs.declared.members.Value.{Value}
use Rattle.disk_classes.proofs.Committing.{keeps_none, keeps_of, keeps_then, put_more, kept_more, put_cases, put_later, put_here, pages_here, pages_other}
use Rattle.disk_classes.proofs.Forcing.{quiet_self}
use Rattle.disk_classes.proofs.Lists.{contains_nil, contains_or_not}
use Rattle.disk_classes.proofs.Only.{puts_none, puts_more, puts_then, only_left, only_fewer, only_begun, opened, undone_back, none_after, free_after}

pub some_within : (values : List (Option Value)) (p : ℕ) (value : Value) → get_or values p None ≡ Some value → p < length values
some_within values p value is = by (cases_lt p (length values))
  where
    by : (p < length values) ⊎ (length values ≤ p) → p < length values
    by (inl lt) = lt
    by (inr le) = absurd (let e : None ≡ Some value = sym (get_or_past values p None le) ∙ is in cc)

-- the blame for a fault, after calls that changed no byte
pub rose_then : (a b c : ℕ) → a ≤ b → RoseBy 1 b c → RoseBy 1 a c
rose_then a b c le rose = omega (arith, le, rose)

pub fault_then : (fault : LogFault) (old mid new : View) → IsQuiet old mid → old.faults ≤ mid.faults → IsDiskOrMemory fault mid new → IsDiskOrMemory fault old new
fault_then Failed old mid new quiet le (rose, last) = (rose_then old.faults mid.faults new.faults le rose, last)
fault_then Memory old mid new quiet le is = quiet_then quiet is
fault_then (Full free needed) old mid new quiet le is = is
fault_then (NotALog place) old mid new quiet le is = is

-- fewer pages than it may put
pub puts_fewer : (old new : State) (slot m n : ℕ) → m ≤ n → PutsIn slot m old new → PutsIn slot n old new
puts_fewer old new slot m n le puts = record { rest = puts.rest; alone = puts.alone; few = (let few = puts.few in omega (arith, few, le)) }

puts_same : (old now new : State) (slot n : ℕ) → new ≡ now → PutsIn slot n old now → PutsIn slot n old new
puts_same old now new slot n is puts = subst (PutsIn slot n old) (sym is) puts

-- The first pages of a list were put, each with its value.
pub record PagesPut {D : Type 0} (tells : Type 0) (view : D → View) (slot : ℕ) (pages : List ℕ) (values : List (Option Value)) (start : Log D) (i : ℕ) (now : Log D) : Type 0 where
  pub sound : IsSoundLog tells view now
  pub keeps : KeepsStages tells view 0 start now
  pub puts : PutsIn slot i (state_of start) (state_of now)
  pub put : tells → (p : ℕ) (value : Value) → Contains (take i pages) p → get_or values p None ≡ Some value → page_in (contents_of view now) p ≡ value.bytes
  pub kept : tells → (p : ℕ) → (Contains (take i pages) p → ⊥) → page_in (contents_of view now) p ≡ page_in (contents_of view start) p
  pub quiet : IsQuiet (view (disk_of start)) (view (disk_of now))

pub pages_none : {D : Type 0} (tells : Type 0) (view : D → View) (slot n : ℕ) (pages : List ℕ) (values : List (Option Value)) (start : Log D) → IsSoundLog tells view start → IsOnlyTx slot n (state_of start)
    → PagesPut tells view slot pages values start 0 start
pages_none tells view slot n pages values start sound only = record {
  sound = sound;
  keeps = keeps_none tells view start;
  puts = puts_none (state_of start) slot n only;
  put = λ told p value h is. absurd (contains_nil p h);
  kept = λ told p out. refl;
  quiet = quiet_self (view (disk_of start));
}

-- What a put gives, over the same bytes.
pub page_put : {D : Type 0} (view : D → View) (now next : Log D) (page : ℕ) (bytes : List ℕ) → IsQuiet (view (disk_of now)) (view (disk_of next))
    → ((image : List ℕ) (p : ℕ) → page_in (over image next) p ≡ (if page == p then bytes else page_in (over image now) p))
    → (p : ℕ) → page_in (contents_of view next) p ≡ (if page == p then bytes else page_in (contents_of view now) p)
page_put view now next page bytes quiet all p = all (view (disk_of next)).image p ∙ (λ j. if page == p then bytes else page_in (over (quiet.image j) now) p)

module _ {D : Type 0} (tells : Type 0) (view : D → View) (slot : ℕ) (pages : List ℕ) (values : List (Option Value)) (start : Log D) (i : ℕ) (now : Log D) (so_far : PagesPut tells view slot pages values start i now)
    (next : Log D) (keeps : Keeps tells view 0 now next) (quiet : IsQuiet (view (disk_of now)) (view (disk_of next))) where
  pub pages_more : (value : Value) (record_put : Put) → i < length pages → get_or values (get_or pages i 0) None ≡ Some value → record_put.slot ≡ slot → state_of next ≡ with_put (state_of now) record_put
      → ((image : List ℕ) (p : ℕ) → page_in (over image next) p ≡ (if get_or pages i 0 == p then value.bytes else page_in (over image now) p))
      → PagesPut tells view slot pages values start (i + 1) next
  pages_more value record_put lt is mine state all = record {
    sound = keeps.sound;
    keeps = keeps_then tells view 0 0 start now next so_far.keeps (keeps_of tells view 0 now next keeps);
    puts = puts_more (state_of start) (state_of now) (state_of next) slot i record_put mine so_far.puts state;
    put = λ told. put_more pages i values (page_in (contents_of view start)) (page_in (contents_of view now)) (page_in (contents_of view next)) lt value is
        (page_put view now next (get_or pages i 0) value.bytes quiet all) (so_far.put told);
    kept = λ told. kept_more pages i values (page_in (contents_of view start)) (page_in (contents_of view now)) (page_in (contents_of view next)) lt value is
        (page_put view now next (get_or pages i 0) value.bytes quiet all) (so_far.kept told);
    quiet = quiet_then so_far.quiet quiet;
  }

  -- after an error
  pub pages_keeps : KeepsStages tells view 0 start next
  pages_keeps = keeps_then tells view 0 0 start now next so_far.keeps (keeps_of tells view 0 now next keeps)

  pub pages_puts : (n : ℕ) → i ≤ n → state_of next ≡ state_of now → PutsIn slot n (state_of start) (state_of next)
  pages_puts n le same = puts_same (state_of start) (state_of now) (state_of next) slot n same (puts_fewer (state_of start) (state_of now) slot i n le so_far.puts)

  pub pages_fault : (fault : LogFault) → IsDiskOrMemory fault (view (disk_of now)) (view (disk_of next)) → IsDiskOrMemory fault (view (disk_of start)) (view (disk_of next))
  pages_fault fault is = fault_then fault (view (disk_of start)) (view (disk_of now)) (view (disk_of next)) so_far.quiet so_far.keeps.counted is

-- The pages of the first members of a list, of those that are of a class, were put.
pub record MembersPut {D : Type 0} (tells : Type 0) (view : D → View) (slot class : ℕ) (ms : List Kept) (values : List (Option Value)) (start : Log D) (i : ℕ) (now : Log D) : Type 0 where
  pub sound : IsSoundLog tells view now
  pub keeps : KeepsStages tells view 0 start now
  pub puts : PutsIn slot (pages_in_class class (take i ms)) (state_of start) (state_of now)
  pub put : tells → (p : ℕ) (value : Value) → IsPutIn class (take i ms) p → get_or values p None ≡ Some value → page_in (contents_of view now) p ≡ value.bytes
  pub kept : tells → (p : ℕ) → (IsPutIn class (take i ms) p → ⊥) → page_in (contents_of view now) p ≡ page_in (contents_of view start) p
  pub quiet : IsQuiet (view (disk_of start)) (view (disk_of now))

none_first : (class p : ℕ) → IsPutIn class [] p → ⊥
none_first class p (m, of, has) = contains_nil p has

pub members_none : {D : Type 0} (tells : Type 0) (view : D → View) (slot class n : ℕ) (ms : List Kept) (values : List (Option Value)) (start : Log D) → IsSoundLog tells view start → IsOnlyTx slot n (state_of start)
    → MembersPut tells view slot class ms values start 0 start
members_none tells view slot class n ms values start sound only = record {
  sound = sound;
  keeps = keeps_none tells view start;
  puts = puts_none (state_of start) slot n only;
  put = λ told p value h is. absurd (none_first class p h);
  kept = λ told p out. refl;
  quiet = quiet_self (view (disk_of start));
}

module _ {D : Type 0} (tells : Type 0) (view : D → View) (slot class : ℕ) (ms : List Kept) (values : List (Option Value)) (start : Log D) (i : ℕ) (now : Log D) (so_far : MembersPut tells view slot class ms values start i now)
    (lt : i < length ms) where
  -- a member of another class
  pub members_other : class_of ms i ≢ class → MembersPut tells view slot class ms values start (i + 1) now
  members_other other = record {
    sound = so_far.sound;
    keeps = so_far.keeps;
    puts = subst (λ (n : ℕ). PutsIn slot n (state_of start) (state_of now)) (sym (pages_other ms class i lt other)) so_far.puts;
    put = λ told p value h is. so_far.put told p value (earlier p (put_cases ms class i p h)) is;
    kept = λ told p out. so_far.kept told p (λ h. out (put_later ms class i p h));
    quiet = so_far.quiet;
  }
    where
      earlier : (p : ℕ) → IsPutIn class (take i ms) p ⊎ ((class_of ms i ≡ class) × Contains (noted_at ms i).pages p) → IsPutIn class (take i ms) p
      earlier p (inl h) = h
      earlier p (inr (of, has)) = absurd (other of)

  -- one of the class
  module _ (is : class_of ms i ≡ class) (list : List ℕ) (list_is : list ≡ (noted_at ms i).pages) where
    so_many : pages_in_class class (take (i + 1) ms) ≡ pages_in_class class (take i ms) + length list
    so_many = let a = pages_here ms class i lt is in let b = ap length list_is in omega (arith, a, b)

    has_in : (p : ℕ) → Contains list p → Contains (noted_at ms i).pages p
    has_in p has = subst (λ (l : List ℕ). Contains l p) list_is has

    in_list : (p : ℕ) → Contains (noted_at ms i).pages p → Contains list p
    in_list p has = subst (λ (l : List ℕ). Contains l p) (sym list_is) has

    in_all : pages_in_class class (take (i + 1) ms) ≤ pages_in_class class ms
    in_all = sum_by-take-le (pages_by class) ms (i + 1)

    pub members_only : IsOnlyTx slot (pages_in_class class ms) (state_of start) → IsOnlyTx slot (length list) (state_of now)
    members_only only = only_left (state_of start) (state_of now) slot (pages_in_class class (take i ms)) (length list)
        (only_fewer (state_of start) slot (pages_in_class class (take i ms) + length list) (pages_in_class class ms) (let a = so_many in let b = in_all in omega (arith, a, b)) only) so_far.puts

    pub members_values : AreValues ms values → AreWithin (state_of start).half.pages values
        → (p : ℕ) → Contains list p → (p < (state_of now).half.pages) × ((value : Value) × (get_or values p None ≡ Some value))
    members_values vals within p has =
        let there = vals.there i p (has_in p has) in
        let less = within p there.0 there.1 in
        let same : (state_of now).half.pages ≡ (state_of start).half.pages = ap (λ (h : Half). h.pages) so_far.keeps.half in
        (omega (arith, less, same), there)

    module _ (next : Log D) (sound : IsSoundLog tells view next) (keeps : KeepsStages tells view 0 now next) (puts : PutsIn slot (length list) (state_of now) (state_of next))
        (quiet : IsQuiet (view (disk_of now)) (view (disk_of next))) where
      pub members_keeps : KeepsStages tells view 0 start next
      members_keeps = keeps_then tells view 0 0 start now next so_far.keeps keeps

      puts_next : PutsIn slot (pages_in_class class (take (i + 1) ms)) (state_of start) (state_of next)
      puts_next = subst (λ (n : ℕ). PutsIn slot n (state_of start) (state_of next)) (sym so_many)
          (puts_then (state_of start) (state_of now) (state_of next) slot (pages_in_class class (take i ms)) (length list) so_far.puts puts)

      pub members_puts : PutsIn slot (pages_in_class class ms) (state_of start) (state_of next)
      members_puts = puts_fewer (state_of start) (state_of next) slot (pages_in_class class (take (i + 1) ms)) (pages_in_class class ms) in_all puts_next

      pub members_quiet : IsQuiet (view (disk_of start)) (view (disk_of next))
      members_quiet = quiet_then so_far.quiet quiet

      pub members_fault : (fault : LogFault) → IsDiskOrMemory fault (view (disk_of now)) (view (disk_of next)) → IsDiskOrMemory fault (view (disk_of start)) (view (disk_of next))
      members_fault fault is = fault_then fault (view (disk_of start)) (view (disk_of now)) (view (disk_of next)) so_far.quiet so_far.keeps.counted is

      pub members_more : (tells → (p : ℕ) (value : Value) → Contains list p → get_or values p None ≡ Some value → page_in (contents_of view next) p ≡ value.bytes)
          → (tells → (p : ℕ) → (Contains list p → ⊥) → page_in (contents_of view next) p ≡ page_in (contents_of view now) p)
          → MembersPut tells view slot class ms values start (i + 1) next
      members_more put kept = record {
        sound = sound;
        keeps = members_keeps;
        puts = puts_next;
        put = λ told p value h of. next_put told p value of (put_cases ms class i p h) (contains_or_not list p);
        kept = λ told p out. kept told p (λ has. out (put_here ms class i p is (has_in p has))) ∙ so_far.kept told p (λ h. out (put_later ms class i p h));
        quiet = members_quiet;
      }
        where
          next_put : tells → (p : ℕ) (value : Value) → get_or values p None ≡ Some value → IsPutIn class (take i ms) p ⊎ ((class_of ms i ≡ class) × Contains (noted_at ms i).pages p)
              → Contains list p ⊎ (Contains list p → ⊥) → page_in (contents_of view next) p ≡ value.bytes
          next_put told p value of any (inl has) = put told p value has of
          next_put told p value of (inl h) (inr absent) = kept told p absent ∙ so_far.put told p value h of
          next_put told p value of (inr (same, has)) (inr absent) = absurd (absent (in_list p has))

-- A class is committed: a transaction begins, puts the pages, and ends or is undone.
module _ {D : Type 0} (tells : Type 0) (view : D → View) (class : ℕ) (ms : List Kept) (values : List (Option Value)) (old : Log D) (idle : IsIdle tells view old) (mid : Log D)
    (n : ℕ) (n_is : n ≡ pages_in_class class ms) (keeps : Keeps tells view 0 old mid) (same : disk_of mid ≡ disk_of old) where
  pub quiet_mid : IsQuiet (view (disk_of old)) (view (disk_of mid))
  quiet_mid = subst (λ (d : D). IsQuiet (view (disk_of old)) (view d)) (sym same) (quiet_self (view (disk_of old)))

  -- it didn't begin
  pub begin_same : (fault : LogFault) → IsBegun (2 * n + 1) (Err fault) (state_of old) (state_of mid) → state_of mid ≡ state_of old
  begin_same Failed is = absurd is
  begin_same (NotALog place) is = absurd is
  begin_same Memory is = is
  begin_same (Full free needed) is = is.3

  pub begin_idle : (fault : LogFault) → IsBegun (2 * n + 1) (Err fault) (state_of old) (state_of mid) → IsIdle tells view mid
  begin_idle fault is = record { sound = keeps.sound; none_open = subst HasNoOpen (sym (begin_same fault is)) idle.none_open }

  pub begin_fault : (fault : LogFault) → 2 * pages_in_class class ms + 1 ≤ free_in (state_of old) → IsBegun (2 * n + 1) (Err fault) (state_of old) (state_of mid) → IsDiskOrMemory fault (view (disk_of old)) (view (disk_of mid))
  begin_fault Failed room is = absurd is
  begin_fault (NotALog place) room is = absurd is
  begin_fault Memory room is = quiet_mid
  begin_fault (Full free needed) room is = absurd (let a = is.1 in let b = is.2 in omega (arith, a, b, room, n_is))

  -- it began
  module _ (tx : Tx) (is : IsBegun (2 * n + 1) (Ok tx) (state_of old) (state_of mid)) where
    pub mid_only : IsOnlyTx tx.slot (pages_in_class class ms) (state_of mid)
    mid_only = subst (λ (m : ℕ). IsOnlyTx tx.slot m (state_of mid)) n_is (only_begun (state_of old) (state_of mid) (state_of mid) idle.sound.accounts idle.none_open tx.slot n is.1 is.3)

    pub mid_within : AreWithin (state_of old).half.pages values → AreWithin (state_of mid).half.pages values
    mid_within within p value e =
        let lt = within p value e in
        let h : (state_of mid).half.pages ≡ (state_of old).half.pages = ap (λ (half : Half). half.pages) keeps.half in
        omega (arith, lt, h)

    page_mid : (p : ℕ) → page_in (contents_of view mid) p ≡ page_in (contents_of view old) p
    page_mid p =
        ap (λ (d : D). page_in (over (view d).image mid) p) same
        ∙ ap (λ (s : State). page_of s.entries s.puts (view (disk_of old)).image p) is.3

    module _ (put : Log D) (put_keeps : KeepsStages tells view 0 mid put) (puts : PutsIn tx.slot (pages_in_class class ms) (state_of mid) (state_of put)) (put_quiet : IsQuiet (view (disk_of mid)) (view (disk_of put))) where
      puts_n : PutsIn tx.slot n (state_of mid) (state_of put)
      puts_n = subst (λ (m : ℕ). PutsIn tx.slot m (state_of mid) (state_of put)) (sym n_is) puts

      pub put_opened : IsOpen (state_of put) tx.slot
      put_opened = opened (state_of old) (state_of mid) (state_of put) idle.sound.accounts idle.none_open tx.slot n is.1 is.3 puts_n

      put_counted : (view (disk_of old)).faults ≤ (view (disk_of put)).faults
      put_counted = let a = keeps.counted in let b = put_keeps.counted in omega (arith, a, b)

      -- and is undone
      module _ (new : Log D) (undone : Keeps tells view 0 put new) (state : state_of new ≡ closed (state_of put) tx.slot) (disk : disk_of new ≡ disk_of put) where
        pub undo_same : state_of new ≡ state_of old
        undo_same = state ∙ undone_back (state_of old) (state_of mid) (state_of put) idle.sound.accounts idle.none_open tx.slot n is.1 is.3 puts_n

        pub undo_idle : IsIdle tells view new
        undo_idle = record { sound = undone.sound; none_open = subst HasNoOpen (sym undo_same) idle.none_open }

        pub undo_quiet : IsQuiet (view (disk_of old)) (view (disk_of new))
        undo_quiet = subst (λ (d : D). IsQuiet (view (disk_of old)) (view d)) (sym disk) (quiet_then quiet_mid put_quiet)

        pub undo_counted : (view (disk_of old)).faults ≤ (view (disk_of new)).faults
        undo_counted = let a = put_counted in let b = undone.counted in omega (arith, a, b)

        pub undo_fault : (fault : LogFault) → IsDiskOrMemory fault (view (disk_of mid)) (view (disk_of put)) → IsDiskOrMemory fault (view (disk_of old)) (view (disk_of new))
        undo_fault fault blamed = subst (λ (d : D). IsDiskOrMemory fault (view (disk_of old)) (view d)) (sym disk)
            (fault_then fault (view (disk_of old)) (view (disk_of mid)) (view (disk_of put)) quiet_mid keeps.counted blamed)

      -- or ends
      module _ (new : Log D) (ends : Keeps tells view 1 put new) (state : state_of new ≡ ended (state_of put) tx.slot) (disk : disk_of new ≡ disk_of put)
          (pages : (image : List ℕ) (p : ℕ) → page_in (over image new) p ≡ page_in (over image put) p) where
        page_new : (p : ℕ) → page_in (contents_of view new) p ≡ page_in (contents_of view put) p
        page_new p = ap (λ (d : D). page_in (over (view d).image new) p) disk ∙ pages (view (disk_of put)).image p

        pub end_idle : IsIdle tells view new
        end_idle = record {
          sound = ends.sound;
          none_open = subst HasNoOpen (sym state) (none_after (state_of old) (state_of mid) (state_of put) idle.sound.accounts idle.none_open tx.slot n is.1 is.3 puts_n);
        }

        pub end_quiet : IsQuiet (view (disk_of old)) (view (disk_of new))
        end_quiet = subst (λ (d : D). IsQuiet (view (disk_of old)) (view d)) (sym disk) (quiet_then quiet_mid put_quiet)

        pub end_counted : (view (disk_of old)).faults ≤ (view (disk_of new)).faults
        end_counted = let a = put_counted in let b = ends.counted in omega (arith, a, b)

        end_room : free_in (state_of old) ≤ free_in (state_of new) + pages_in_class class ms + 1
        end_room =
            let a = free_after (state_of old) (state_of mid) (state_of put) idle.sound.accounts idle.none_open tx.slot n is.1 is.3 puts_n in
            let b : free_in (state_of new) ≡ free_in (ended (state_of put) tx.slot) = ap free_in state in
            omega (arith, a, b, n_is)

        pub end_commits : (tells → (p : ℕ) (value : Value) → IsPutIn class ms p → get_or values p None ≡ Some value → page_in (contents_of view put) p ≡ value.bytes)
            → (tells → (p : ℕ) → (IsPutIn class ms p → ⊥) → page_in (contents_of view put) p ≡ page_in (contents_of view mid) p)
            → CommitsClass tells view class ms values old new
        end_commits put_all kept_all = record {
          keeps = keeps_then tells view 0 1 old mid new (keeps_of tells view 0 old mid keeps) (keeps_then tells view 0 1 mid put new put_keeps (keeps_of tells view 1 put new ends));
          put = λ told p value h of. page_new p ∙ put_all told p value h of;
          kept = λ told p out. page_new p ∙ kept_all told p out ∙ page_mid p;
          room = end_room;
        }
