-- That the numbers of wants go on rising, and suffice.
use Rattle.std.proofs.Common.{◌≡◌, ℕ, ◌+◌, ◌⊎◌, ◌==◌, ◌≤◌, ◌<◌, ◌^◌, Bool, true, false, ◌||◌, not, if◌then◌else◌}
use Rattle.std.proofs.Common.{List, [], ◌∷◌, ◌++◌, length, length-append, get_or, take, drop, suc, Option, Some, None}
use Rattle.std.proofs.Common.{IfSome, inl, inr, refl, sym, ◌∙◌, subst, arith}
use Rattle.std.specs.Prelude.{All, remove}
use Rattle.std.specs.List.{filter}
use Rattle.std.proofs.lemmas.Bool.{cases_Bool, false≢true}
use Rattle.std.proofs.lemmas.List.Edits.{length-remove}
use Rattle.std.proofs.lemmas.List.Elements.{All-append, All-drop, All-filter, All-head, All-nil, All-push, All-tail}
use Rattle.std.proofs.lemmas.List.Elements.{All-take, All-weaker}
use Rattle.std.proofs.lemmas.List.Kept.{AllPairs-filter}
use Rattle.std.proofs.lemmas.List.Quantifiers.{all_pairs_push, all_pairs_remove}
use Rattle.base_types.specs.declared.ids.HostId.{HostId}
use Rattle.base_types.specs.declared.ids.ServerId.{ServerId}
use Rattle.base_types.specs.declared.limits.TheConstants.{NEEDS_MAX}
use Rattle.tree_calls.specs.declared.roster.Roster.{Roster}
use Rattle.token_manager.specs.Managers.{Manager, after_down, after_enqueue, after_given_up}
use Rattle.token_manager.proofs.Pairs.{pairs_head, pairs_tail}
use Rattle.run_rules.specs.Past.{In}
use Rattle.run_rules.specs.declared.applied.Wanted.{Wanted}
use Rattle.server_tables.specs.declared.hosts.Hosts.{Hosts}
use Rattle.server_tables.specs.declared.pending.Pending.{Pending}
use Rattle.server_tables.specs.declared.tables.Tables.{Tables}
use Rattle.server_tables.specs.Counting.{AreCounted, CanAskAll, IsCounted, IsLater, IsSmall}
use Rattle.server_tables.specs.Greetings.{listing, welcoming}
use Rattle.server_tables.specs.Judging.{forgotten}
use Rattle.server_tables.specs.Listing.{has_host, leaving, no_grace, reclaiming}
use Rattle.server_tables.specs.Standing.{want_for}
use Rattle.server_tables.specs.Starts.{starting}
use Rattle.server_tables.specs.Updates.{all_enqueued, begun, enqueued, gone_away, left_by, opened, reclaimed_by}
use Rattle.server_tables.specs.Updates.{tokens_enqueued, tokens_left, tokens_opened, unqueued, wants_left}
use Rattle.server_tables.specs.Updates.{without_its, without_one}
use Rattle.server_tables.proofs.Greeting.{in_front, in_end, in_parts}
use Rattle.server_tables.proofs.Listed.{all_in, in_all, has_in, in_has, leaving_was}
use Rattle.server_tables.proofs.Queueing.{one_is}

-- a filter leaves no more
fewer : {X : Type 0} (p : X → Bool) (xs : List X) → length (filter p xs) ≤ length xs
fewer p [] = omega arith
fewer p (x ∷ xs) =
    elim (cases_Bool (p x)) [
      | inl passes ↦ rw passes (omega (arith, fewer p xs))
      | inr fails ↦ rw fails (omega (arith, fewer p xs))
    ]

-- what holds of all still does without one
all_remove : {X : Type 0} (P : X → Type 0) (xs : List X) (place : ℕ) → All P xs → All P (remove xs place)
all_remove P xs place h =
    All-append P (take place xs) (drop (suc place) xs) (All-take P place xs h) (All-drop P (suc place) xs h)

later_of : (latest : Option ℕ) (n : ℕ) → IfSome latest (λ last. last < n) → (m : ℕ) → n ≤ m → IfSome latest
    (λ last. last < m)
later_of None n h m l = h
later_of (Some last) n h m l = omega arith

-- more may be so where no grace period lasts
pub counted_over : (over is_over : Bool) (asked : ℕ) (latest : Option ℕ) (ps : List Pending) (next : ℕ)
    → (is_over ≡ false → over ≡ false) → AreCounted over asked latest ps next → AreCounted is_over asked latest ps next
counted_over over is_over asked latest ps next f h = record {
  few = h.few;
  asked = h.asked;
  latest = h.latest;
  small = h.small;
  below = h.below;
  rising = h.rising;
  room = λ e. h.room (f e);
  unasked = λ e. h.unasked (f e);
}

pub can_ask_all : (asked : ℕ) (latest : Option ℕ) (ps : List Pending) (next : ℕ) → AreCounted false asked latest ps next
    → CanAskAll asked latest ps
can_ask_all asked latest ps next h = record {
  room = let r = h.room refl in let f = h.few in omega arith;
  later = h.unasked refl;
  small = h.small;
  rising = h.rising;
}

-- one is asked
pub ask_step : (asked : ℕ) (latest : Option ℕ) (p : Pending) (ps : List Pending) → CanAskAll asked latest (p ∷ ps)
    → CanAskAll (asked + 1) (Some p.number) ps
ask_step asked latest p ps h = record {
  room = let r = h.room in omega arith;
  later = pairs_head (λ (a b : Pending). a.number < b.number) p ps h.rising;
  small = All-tail IsSmall p ps h.small;
  rising = pairs_tail (λ (a b : Pending). a.number < b.number) p ps h.rising;
}

asked_after : (m : Manager) (ps : List Pending) → (all_enqueued m ps).asked ≡ m.asked + length ps
asked_after m [] = omega arith
asked_after m (p ∷ ps) = asked_after (after_enqueue m (want_for p)) ps ∙ omega arith

latest_after : (m : Manager) (ps : List Pending) (next : ℕ) → IfSome m.latest (λ last. last < next)
    → All (λ p. p.number < next) ps → IfSome (all_enqueued m ps).latest (λ last. last < next)
latest_after m [] next h all = h
latest_after m (p ∷ ps) next h all =
    latest_after (after_enqueue m (want_for p)) ps next (All-head (λ (q : Pending). q.number < next) p ps all)
    (All-tail (λ (q : Pending). q.number < next) p ps all)

-- all wants that wait were asked
counted_asked : (m : Manager) (ps : List Pending) (next : ℕ) → AreCounted false m.asked m.latest ps next
    → AreCounted true (all_enqueued m ps).asked (all_enqueued m ps).latest ps next
counted_asked m ps next h = record {
  few = h.few;
  asked = rw (asked_after m ps) (h.room refl);
  latest = latest_after m ps next h.latest h.below;
  small = h.small;
  below = h.below;
  rising = h.rising;
  room = λ e. absurd (false≢true (sym e));
  unasked = λ e. absurd (false≢true (sym e));
}

opened_cases : (over now : Bool) (m : Manager) (ps : List Pending) (next : ℕ) → (over ≡ true → now ≡ true)
    → AreCounted over m.asked m.latest ps next
    → AreCounted now (if over || not now then m else all_enqueued m ps).asked
    (if over || not now then m else all_enqueued m ps).latest ps next
opened_cases true true m ps next f h = h
opened_cases true false m ps next f h = absurd (false≢true (f refl))
opened_cases false true m ps next f h = counted_asked m ps next h
opened_cases false false m ps next f h = h

-- where a grace period has ended, all are asked
pub counted_opened : (over : Bool) (x : Tables) → (over ≡ true → no_grace x.hosts ≡ true)
    → AreCounted over x.tokens.asked x.tokens.latest x.pending x.next → IsCounted (opened over x)
unfolding tokens_opened
counted_opened over x f h = opened_cases over (no_grace x.hosts) x.tokens x.pending x.next f h

enqueued_cases : (over : Bool) (m : Manager) (ps : List Pending) (p : Pending) (next : ℕ) → p.number ≡ next
    → next < 2 ^ 44 → IsSmall p → AreCounted over m.asked m.latest ps next
    → AreCounted over (if over then after_enqueue m (want_for p) else m).asked (if over then after_enqueue m
    (want_for p) else m).latest
    (ps ++ p ∷ []) (next + 1)
enqueued_cases true m ps p next e few small h = record {
  few = omega arith;
  asked = let a = h.asked in omega arith;
  latest = omega arith;
  small = All-push IsSmall ps p h.small small;
  below = All-push (λ (q : Pending). q.number < next + 1) ps p
      (All-weaker (λ (q : Pending). q.number < next) (λ (q : Pending). q.number < next + 1)
      (λ q l. omega arith) ps h.below) (omega arith);
  rising = all_pairs_push (λ (a b : Pending). a.number < b.number) ps p h.rising
      (λ k d l. let b : (get_or ps k d).number < next = h.below k d l in omega arith);
  room = λ f. absurd (false≢true (sym f));
  unasked = λ f. absurd (false≢true (sym f));
}
enqueued_cases false m ps p next e few small h = record {
  few = omega arith;
  asked = let a = h.asked in omega arith;
  latest = later_of m.latest next h.latest (next + 1) (omega arith);
  small = All-push IsSmall ps p h.small small;
  below = All-push (λ (q : Pending). q.number < next + 1) ps p
      (All-weaker (λ (q : Pending). q.number < next) (λ (q : Pending). q.number < next + 1)
      (λ q l. omega arith) ps h.below) (omega arith);
  rising = all_pairs_push (λ (a b : Pending). a.number < b.number) ps p h.rising
      (λ k d l. let b : (get_or ps k d).number < next = h.below k d l in omega arith);
  room = λ f. rw (length-append ps (p ∷ [])) (let r = h.room refl in omega arith);
  unasked = λ f. All-push (IsLater m.latest) ps p (h.unasked refl) (later_of m.latest next h.latest p.number
      (omega arith));
}

pub counted_enqueued : (x : Tables) (wanted : Wanted) → x.next < 2 ^ 44 → length wanted.needs ≤ NEEDS_MAX → IsCounted x
    → IsCounted (enqueued x wanted)
unfolding tokens_enqueued
counted_enqueued x wanted few small h =
    enqueued_cases (no_grace x.hosts) x.tokens x.pending (record {
      number = x.next;
      wanted =
          wanted;
    }) x.next refl few small h

pub counted_unqueued : (x : Tables) (place number : ℕ) → place < length x.pending → IsCounted x
    → IsCounted (unqueued x place number)
counted_unqueued x place number l h = record {
  few = h.few;
  asked = h.asked;
  latest = h.latest;
  small = all_remove IsSmall x.pending place h.small;
  below = all_remove (λ (p : Pending). p.number < x.next) x.pending place h.below;
  rising = all_pairs_remove (λ (a b : Pending). a.number < b.number) x.pending place l h.rising;
  room = λ e. let r = h.room e in let s = length-remove x.pending place l in omega arith;
  unasked = λ e. all_remove (IsLater x.tokens.latest) x.pending place (h.unasked e);
}

one_asked : (b : Bool) (m : Manager) (n : ℕ) → (if b then after_given_up m n else m).asked ≡ m.asked
one_asked true m n = refl
one_asked false m n = refl

one_latest : (b : Bool) (m : Manager) (n : ℕ) → (if b then after_given_up m n else m).latest ≡ m.latest
one_latest true m n = refl
one_latest false m n = refl

its_asked : (m : Manager) (host : HostId) (ps : List Pending) → (without_its m host ps).asked ≡ m.asked
unfolding without_one
its_asked m host [] = refl
its_asked m host (p ∷ ps) =
    its_asked (without_one m host p) host ps ∙ one_asked (p.wanted.host.0 == host.0) m p.number

its_latest : (m : Manager) (host : HostId) (ps : List Pending) → (without_its m host ps).latest ≡ m.latest
unfolding without_one
its_latest m host [] = refl
its_latest m host (p ∷ ps) =
    its_latest (without_one m host p) host ps ∙ one_latest (p.wanted.host.0 == host.0) m p.number

-- the wants of a host are gone
pub counted_left : (x : Tables) (host : HostId) → IsCounted x
    → AreCounted (no_grace x.hosts) (tokens_left x host).asked (tokens_left x host).latest
    (wants_left x.pending host) x.next
counted_left x host h =
    let p = λ (q : Pending). not (q.wanted.host.0 == host.0) in
    let a = its_asked (after_down x.tokens host) host x.pending in
    let b = its_latest (after_down x.tokens host) host x.pending in
    let c : AreCounted (no_grace x.hosts) x.tokens.asked x.tokens.latest (wants_left x.pending host) x.next = record {
      few = h.few;
      asked = h.asked;
      latest = h.latest;
      small = All-filter p IsSmall x.pending h.small;
      below = All-filter p (λ (q : Pending). q.number < x.next) x.pending h.below;
      rising = AllPairs-filter (λ (a b : Pending). a.number < b.number) p x.pending h.rising;
      room = λ e. let r = h.room e in let s = fewer p x.pending in omega arith;
      unasked = λ e. All-filter p (IsLater x.tokens.latest) x.pending (h.unasked e);
    } in
    let d = subst (λ (n : ℕ). AreCounted (no_grace x.hosts) n x.tokens.latest (wants_left x.pending host) x.next)
    (sym a) c in
    subst (λ (o : Option ℕ). AreCounted (no_grace x.hosts) (tokens_left x host).asked o
    (wants_left x.pending host) x.next) (sym b) d

or_from : (x y : Bool) → (x ≡ true) ⊎ (y ≡ true) → (x || y) ≡ true
or_from true y p = refl
or_from false y (inl p) = absurd (false≢true p)
or_from false y (inr p) = p

or_to : (x y : Bool) → (x || y) ≡ true → (x ≡ true) ⊎ (y ≡ true)
or_to true y p = inl refl
or_to false y p = inr p

-- no grace period begins where hosts stay on the list, and those away or reclaimed stay so
over_on : (x y : Hosts) → no_grace x ≡ true
    → ((h : HostId) → In h y.listed → In h x.listed ⊎ In h y.reclaimed)
    → ((h : HostId) → In h x.away → In h y.away) → ((h : HostId) → In h x.reclaimed → In h y.reclaimed) → no_grace y
    ≡ true
over_on x y e listed away reclaimed =
    in_all (λ (h : HostId). has_host y.away h || has_host y.reclaimed h) y.listed (λ h m.
    elim (listed h m) [
      | inl was ↦ elim (or_to (has_host x.away h) (has_host x.reclaimed h) (all_in
          (λ (k : HostId). has_host x.away k || has_host x.reclaimed k) x.listed e h was)) [
            | inl p ↦ or_from (has_host y.away h) (has_host y.reclaimed h) (inl (in_has y.away h (away h
                (has_in x.away h p))))
            | inr p ↦ or_from (has_host y.away h) (has_host y.reclaimed h) (inr (in_has y.reclaimed h (reclaimed h
                (has_in x.reclaimed h p))))
          ]
      | inr now ↦ or_from (has_host y.away h) (has_host y.reclaimed h) (inr (in_has y.reclaimed h now))
    ])

over_left : (x : Hosts) (host : HostId) → no_grace x ≡ true → no_grace (leaving x host) ≡ true
unfolding leaving
over_left x host e = over_on x (leaving x host) e
    (λ k m. inl (elim (cases_Bool (has_host x.away host)) [
      | inl b ↦ subst (λ (v : Bool). In k (if v then x else record x { away = x.away ++ host ∷ [] }).listed) b m
      | inr b ↦ subst (λ (v : Bool). In k (if v then x else record x { away = x.away ++ host ∷ [] }).listed) b m
    ]))
    (λ k m. leaving_was x host k m)
    (λ k m. elim (cases_Bool (has_host x.away host)) [
      | inl b ↦ subst (λ (v : Bool). In k (if v then x else record x { away = x.away ++ host ∷ [] }).reclaimed)
          (sym b) m
      | inr b ↦ subst (λ (v : Bool). In k (if v then x else record x { away = x.away ++ host ∷ [] }).reclaimed)
          (sym b) m
    ])

pub counted_gone : (x : Tables) (host : HostId) → IsCounted x → IsCounted (gone_away x host)
counted_gone x host h = counted_opened (no_grace x.hosts) (left_by x host) (over_left x.hosts host)
    (counted_left x host h)

pub counted_reclaimed : (x : Tables) (host : HostId) → IsCounted x → IsCounted (reclaimed_by x host)
counted_reclaimed x host h = counted_opened (no_grace x.hosts) (record x {
  hosts = reclaiming x.hosts host;
  recovering = forgotten x.recovering host;
}) (λ e. over_on x.hosts (reclaiming x.hosts host) e (λ k m. inl m) (λ k m. m) (λ k m. in_front k x.hosts.reclaimed
    (host ∷ []) m)) h

pub counted_welcome : (x : Tables) (host : HostId) → IsCounted x → IsCounted (welcoming x host)
counted_welcome x host h =
    counted_over (no_grace x.hosts) (no_grace (listing x.hosts host)) x.tokens.asked x.tokens.latest x.pending x.next
    (λ e.
    elim (cases_Bool (no_grace x.hosts)) [
      | inl b ↦ absurd (false≢true (sym e ∙ over_on x.hosts (listing x.hosts host) b
          (λ k m. elim (in_parts k x.hosts.listed (host ∷ []) m) [
            | inl p ↦ inl p
            | inr p ↦ inr (subst (λ (z : HostId). In z (x.hosts.reclaimed ++ host ∷ [])) (sym (one_is k host p))
                (in_end host x.hosts.reclaimed))
          ]) (λ k m. m) (λ k m. in_front k x.hosts.reclaimed (host ∷ []) m)))
      | inr b ↦ b
    ]) h

pub counted_begun : (x : Tables) → IsCounted x → IsCounted (begun x)
counted_begun x h = record {
  few = h.few;
  asked = h.asked;
  latest = h.latest;
  small = All-nil IsSmall;
  below = All-nil (λ (p : Pending). p.number < x.next);
  rising = λ i j d l k. absurd (omega arith);
  room = λ e. let a = h.asked in omega arith;
  unasked = λ e. All-nil (IsLater x.tokens.latest);
}

pub counted_new : (server : ServerId) (epoch : ℕ) (roster : Roster) → IsCounted (starting server epoch roster)
counted_new server epoch roster = record {
  few = omega arith;
  asked = omega arith;
  latest = tt;
  small = All-nil IsSmall;
  below = All-nil (λ (p : Pending). p.number < 0);
  rising = λ i j d l k. absurd (omega arith);
  room = λ e. omega arith;
  unasked = λ e. All-nil (IsLater None);
}
