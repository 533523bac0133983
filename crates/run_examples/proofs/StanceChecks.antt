-- Where a host stands in a step, computed.
use Rattle.run_rules.specs.Past.{EachOnce, In}
use Rattle.run_rules.specs.Views.{HasLabel, IsLock, IsOpening, KnowsItself, NeedsServer, Stance}
use Rattle.std.proofs.Common.{Bool, List, None, Option, Some, [], false, inl, inr, refl, subst, sym, true}
use Rattle.std.proofs.Common.{if◌then◌else◌, ℕ, ◌&&◌, ◌++◌, ◌||◌, ◌∙◌, ◌∷◌, ◌≡◌}
use Rattle.std.proofs.lemmas.Bool.{and_parts, and_from, or_cases, or_left, or_right}
use Rattle.std.specs.Prelude.{not, flat_map}
use Rattle.std.specs.List.{filter, list_all, list_any}
use Rattle.base_types.specs.Name.{same_name}
use Rattle.base_types.specs.declared.ids.FilesetId.{FilesetId}
use Rattle.base_types.specs.declared.ids.HostId.{HostId}
use Rattle.base_types.specs.declared.ids.OpenKind.{OpenKind}
use Rattle.base_types.specs.declared.ids.ServerId.{ServerId}
use Rattle.base_types.specs.declared.span.Span.{Span}
use Rattle.base_types.specs.declared.user.User.{User}
use Rattle.tree_calls.specs.Rosters.{user_of}
use Rattle.tree_calls.specs.declared.roster.Roster.{Roster}
use Rattle.need_host.specs.Calls.{Own}
use Rattle.tree_answers.specs.declared.tree.LockUse.{LockUse}
use Rattle.tree_answers.specs.declared.tree.OpenUse.{OpenUse}
use Rattle.token_types.specs.declared.token.Kind.{Kind}
use Rattle.token_types.specs.declared.token.Kind.TheVariants.{Lock as LockToken, Opening}
use Rattle.run_rules.specs.declared.step.Labelled.{Labelled}
use Rattle.run_rules.specs.declared.step.Step.{Step}
use Rattle.run_examples.proofs.Tests.{passes, all_true, implies, so, is_not, at_all, some_in, any_of}
use Rattle.run_examples.proofs.Tests.{apart}
use Rattle.run_examples.proofs.Tests.{in_front, in_back, in_split, in_filter, from_filter, in_flat, from_flat}
use Rattle.run_examples.proofs.Tests.{same_server}
use Rattle.run_examples.proofs.Tests.{same_fileset, server_is, servers, fileset_is, name_is, names, clash}
use Rattle.run_examples.proofs.Words.{hand, hand_in, in_hand, held, held_in, in_held}
use Rattle.run_examples.proofs.LabelWords.{begun, ending_begun, in_use, in_used, used_in, frees, frees_yes}
use Rattle.run_examples.proofs.LabelWords.{frees_is}
use Rattle.run_examples.proofs.LabelWords.{is_ending, ending_yes, ending_is, is_local}
use Rattle.run_examples.proofs.DirtWords.{is_clean, clean_yes, clean_is}
use Rattle.run_examples.proofs.CallWords.{Led, led, entered, entered_in, in_entered}

unfoldable pub labels : List Step → Step → List Labelled
labels past s = in_use past ++ filter (is_ending past s) (begun past)

pub label_in : (past : List Step) (s : Step) (u : Labelled) → HasLabel past s u → In u (labels past s)
unfolding labels
label_in past s u (inl x) = in_front u (in_use past) (filter (is_ending past s) (begun past)) (used_in past u x)
label_in past s u (inr x) =
    in_back u (in_use past) (filter (is_ending past s) (begun past))
    (in_filter (is_ending past s) (begun past) u (ending_begun past s u x) (ending_is past s u x))

pub in_label : (past : List Step) (s : Step) (u : Labelled) → In u (labels past s) → HasLabel past s u
unfolding labels
in_label past s u i =
    elim (in_split u (in_use past) (filter (is_ending past s) (begun past)) i) [
      | inl p ↦ inl (in_used past u p)
      | inr p ↦ inr (ending_yes past s u (from_filter (is_ending past s) (begun past) u p).1)
    ]

unfoldable pub lock_by : HostId → Labelled → Kind → List LockUse
lock_by host u (LockToken writing span) =
    record { host = host; label = u.label; fid = u.token.fid; writing = writing; span = span } ∷ []
lock_by host u _ = []

unfoldable pub opening_by : HostId → Labelled → Kind → List OpenUse
opening_by host u (Opening kind) = record { host = host; label = u.label; fid = u.token.fid; kind = kind } ∷ []
opening_by host u _ = []

unfoldable pub locks_of : HostId → List Step → Step → List LockUse
locks_of host past s = flat_map (λ u. lock_by host u u.token.kind) (labels past s)

unfoldable pub opens_of : HostId → List Step → Step → List OpenUse
opens_of host past s = flat_map (λ u. opening_by host u u.token.kind) (labels past s)

is_lock : (host : HostId) (u : Labelled) (k : Kind) (lock : LockUse) → u.token.kind ≡ k → In lock (lock_by host u k)
    → IsLock host lock u
unfolding labels lock_by opening_by locks_of opens_of
is_lock host u (LockToken writing span) lock e (inl p) =
    subst (λ (x : LockUse). IsLock host x u) (sym p) (refl, refl, refl, e)
is_lock host u (LockToken writing span) lock e (inr p) = elim p [ ]
is_lock host u k lock e i = elim i [ ]

lock_is : (host : HostId) (u : Labelled) (lock : LockUse) → IsLock host lock u → In lock (lock_by host u u.token.kind)
unfolding labels lock_by opening_by locks_of opens_of
lock_is host u lock (h, l, f, k) =
    subst (λ x. In lock (lock_by host u x)) (sym k)
    (inl (λ i. record { host = h i; label = l i; fid = f i; writing = lock.writing; span = lock.span }))

is_opening : (host : HostId) (u : Labelled) (k : Kind) (o : OpenUse) → u.token.kind ≡ k → In o (opening_by host u k)
    → IsOpening host o u
unfolding labels lock_by opening_by locks_of opens_of
is_opening host u (Opening kind) o e (inl p) = subst (λ (x : OpenUse). IsOpening host x u) (sym p) (refl, refl, refl, e)
is_opening host u (Opening kind) o e (inr p) = elim p [ ]
is_opening host u k o e i = elim i [ ]

opening_is : (host : HostId) (u : Labelled) (o : OpenUse) → IsOpening host o u → In o (opening_by host u u.token.kind)
unfolding labels lock_by opening_by locks_of opens_of
opening_is host u o (h, l, f, k) =
    subst (λ x. In o (opening_by host u x)) (sym k) (inl (λ i. record {
      host = h i;
      label = l i;
      fid = f i;
      kind =
          o.kind;
    }))

unfoldable pub needs_server : List Step → Step → Labelled → Bool
needs_server past s u = frees past u || is_ending past s u

needs_yes : (past : List Step) (s : Step) (u : Labelled) → needs_server past s u ≡ true → NeedsServer past s u
unfolding labels lock_by opening_by locks_of opens_of needs_server
needs_yes past s u e =
    elim (or_cases (frees past u) (is_ending past s u) e) [
      | inl p ↦ inl (frees_yes past u p)
      | inr p ↦ inr
          (ending_yes past s u p)
    ]

needs_is : (past : List Step) (s : Step) (u : Labelled) → NeedsServer past s u → needs_server past s u ≡ true
unfolding labels lock_by opening_by locks_of opens_of needs_server
needs_is past s u (inl x) = or_left (frees past u) (is_ending past s u) (frees_is past u x)
needs_is past s u (inr x) = or_right (frees past u) (is_ending past s u) (ending_is past s u x)

has_label : (past : List Step) (s : Step) (u : Labelled) → NeedsServer past s u → In u (labels past s)
unfolding labels lock_by opening_by locks_of opens_of needs_server
has_label past s u (inl x) = label_in past s u (inl x.0.0)
has_label past s u (inr x) = label_in past s u (inr x)

unfoldable pub is_lock_kind : Kind → Bool
is_lock_kind (LockToken writing span) = true
is_lock_kind _ = false

unfoldable pub is_open_kind : Kind → Bool
is_open_kind (Opening kind) = true
is_open_kind _ = false

lock_kind : (k : Kind) → is_lock_kind k ≡ true → (w : Bool) × (span : Span) × (k ≡ LockToken w span)
unfolding labels lock_by opening_by locks_of opens_of needs_server is_lock_kind is_open_kind
lock_kind (LockToken w span) e = (w, span, refl)
lock_kind k e = absurd (cc)

open_kind : (k : Kind) → is_open_kind k ≡ true → (o : OpenKind) × (k ≡ Opening o)
unfolding labels lock_by opening_by locks_of opens_of needs_server is_lock_kind is_open_kind
open_kind (Opening o) e = (o, refl)
open_kind k e = absurd (cc)

unfoldable pub gives_with : (Kind → Bool) → List Step → Step → List ℕ → Labelled → Bool
gives_with is past s label u = same_name u.label label && (is u.token.kind && needs_server past s u)

unfoldable pub gives_label : (Kind → Bool) → List Step → Step → List ℕ → Bool
gives_label is past s label = list_any (gives_with is past s label) (labels past s)

gives_yes : (is : Kind → Bool) (past : List Step) (s : Step) (label : List ℕ) → gives_label is past s label ≡ true
    → (u : Labelled) × (u.label ≡ label) × (is u.token.kind ≡ true) × NeedsServer past s u
unfolding labels lock_by opening_by locks_of opens_of needs_server is_lock_kind is_open_kind gives_with gives_label
gives_yes is past s label e =
    let p = some_in (gives_with is past s label) (labels past s) e in
    let q = and_parts (same_name p.0.label label) (is p.0.token.kind && needs_server past s p.0) p.2 in
    let r = and_parts (is p.0.token.kind) (needs_server past s p.0) q.1 in
    (p.0, name_is p.0.label label q.0, r.0, needs_yes past s p.0 r.1)

gives_is : (is : Kind → Bool) (past : List Step) (s : Step) (label : List ℕ) (u : Labelled) → u.label ≡ label
    → is u.token.kind ≡ true → NeedsServer past s u → gives_label is past s label ≡ true
unfolding labels lock_by opening_by locks_of opens_of needs_server is_lock_kind is_open_kind gives_with gives_label
gives_is is past s label u l k n =
    any_of (gives_with is past s label) (labels past s) u (has_label past s u n)
    (and_from (same_name u.label label) (is u.token.kind && needs_server past s u) (names u.label label l)
    (and_from (is u.token.kind) (needs_server past s u) k (needs_is past s u n)))

-- the first that a server and a name lead to
unfoldable pub leads : ServerId → List ℕ → Led → Bool
leads v name l = same_server l.server v && same_name l.name name

unfoldable pub seen_in : List Led → ServerId → List ℕ → Option FilesetId
seen_in [] v name = None
seen_in (l ∷ ls) v name = if leads v name l then Some l.id else seen_in ls v name

leads_is : (v : ServerId) (name : List ℕ) (l : Led) → leads v name l ≡ true → l ≡ led v name l.id
unfolding labels lock_by opening_by locks_of opens_of needs_server is_lock_kind is_open_kind gives_with gives_label
    leads seen_in
leads_is v name l e =
    let p = and_parts (same_server l.server v) (same_name l.name name) e in
    let s = server_is l.server v p.0 in
    let n = name_is l.name name p.1 in
    λ i. led (s i) (n i) l.id

seen_yes : (ls : List Led) (v : ServerId) (name : List ℕ) (id : FilesetId) → seen_in ls v name ≡ Some id → In
    (led v name id) ls
unfolding labels lock_by opening_by locks_of opens_of needs_server is_lock_kind is_open_kind gives_with gives_label
    leads seen_in
seen_yes [] v name id e = absurd (cc)
seen_yes (l ∷ ls) v name id e = go (leads v name l) refl e (seen_yes ls v name id)
  where
    go : (b : Bool) → leads v name l ≡ b → (if b then Some l.id else seen_in ls v name) ≡ Some id
        → (seen_in ls v name ≡ Some id → In (led v name id) ls) → In (led v name id) (l ∷ ls)
    go true t e more =
        let p : l.id ≡ id = cc in inl (sym (leads_is v name l t ∙ (λ i. led v name (p i))))
    go false t e more = inr (more e)

unfoldable pub one_id : FilesetId → ServerId → List ℕ → List Led → Bool
one_id id v name ls = list_all (λ l. implies (leads v name l) (same_fileset l.id id)) ls

seen_is : (ls : List Led) (v : ServerId) (name : List ℕ) (id : FilesetId) → one_id id v name ls ≡ true → In
    (led v name id) ls
    → seen_in ls v name ≡ Some id
unfolding labels lock_by opening_by locks_of opens_of needs_server is_lock_kind is_open_kind gives_with gives_label
    leads seen_in one_id
seen_is [] v name id t i = elim i [ ]
seen_is (l ∷ ls) v name id t i = go (leads v name l) refl (seen_is ls v name id p.1)
  where
    p : (implies (leads v name l) (same_fileset l.id id) ≡ true) × (one_id id v name ls ≡ true)
    p = and_parts (implies (leads v name l) (same_fileset l.id id)) (one_id id v name ls) t

    go : (b : Bool) → leads v name l ≡ b → (In (led v name id) ls → seen_in ls v name ≡ Some id)
        → (if b then Some l.id else seen_in ls v name) ≡ Some id
    go true e more = let q = fileset_is l.id id (so (leads v name l) (same_fileset l.id id) p.0 e) in λ j. Some (q j)
    go false e more =
        elim i [
          | inl q ↦ absurd (clash (subst (λ x. leads v name x ≡ true) q (and_from (same_server v v)
              (same_name name name) (servers v v refl) (names name name refl))) e)
          | inr q ↦ more q
        ]

unfoldable pub each_one_id : List Led → List Led → Bool
each_one_id ls all = list_all (λ l. one_id l.id l.server l.name all) ls

abbrev pub own_of : ServerId → HostId → List Step → Step → Own
own_of site host past s = record {
  locks = locks_of host past s;
  opens = opens_of host past s;
  gives_lock = λ label. gives_label is_lock_kind past s label;
  gives_open = λ label. gives_label is_open_kind past s label;
  is_clean = λ fid. is_clean past s fid;
  seen = λ server name. seen_in (entered site (s ∷ past)) server name;
}

pub once_from : {A : Type 0} (alike : A → A → Bool) (xs : List A) → ((x : A) → alike x x ≡ true) → apart alike xs ≡ true
    → EachOnce xs
unfolding labels lock_by opening_by locks_of opens_of needs_server is_lock_kind is_open_kind gives_with gives_label
    leads seen_in one_id each_one_id
once_from alike [] same e = tt
once_from alike (x ∷ xs) same e =
    let p = and_parts (list_all (λ y. not (alike x y) && not (alike y x)) xs) (apart alike xs) e in (
      λ m. let q = and_parts (not (alike x x)) (not (alike x x)) (at_all (λ y. not (alike x y) && not
          (alike y x)) xs x p.0 m) in
          is_not (alike x x) q.0 (same x),
      once_from alike xs same p.1,
    )

abbrev pub same_lock : LockUse → LockUse → Bool
same_lock a b = same_name a.label b.label

abbrev pub same_open : OpenUse → OpenUse → Bool
same_open a b = same_name a.label b.label

unfoldable pub stance_tests : ServerId → HostId → List Step → Step → List Bool
stance_tests site host past s =
    is_local site (s ∷ past) ∷ apart same_lock (locks_of host past s) ∷ apart same_open (opens_of host past s)
    ∷ each_one_id (entered site (s ∷ past)) (entered site (s ∷ past)) ∷ []

pub knows_of : (site : ServerId) (host : HostId) (past : List Step) (s : Step) → passes
    (stance_tests site host past s) ≡ true
    → KnowsItself host past s (own_of site host past s)
unfolding labels lock_by opening_by locks_of opens_of needs_server is_lock_kind is_open_kind gives_with gives_label
    leads seen_in one_id each_one_id stance_tests
knows_of site host past s e =
    let t = all_true (stance_tests site host past s) e in
    record {
      locks = λ lock. (
        λ m. let p = from_flat (λ (u : Labelled). lock_by host u u.token.kind) (labels past s) lock m in
            (p.0, in_label past s p.0 p.1, is_lock host p.0 p.0.token.kind lock refl p.2),
        λ x. in_flat (λ (u : Labelled). lock_by host u u.token.kind) (labels past s) x.0 lock
            (label_in past s x.0 x.1) (lock_is host x.0 lock x.2),
      );
      locks_once = once_from same_lock (locks_of host past s) (λ x. names x.label x.label refl) t.1.0;
      opens = λ o. (
        λ m. let p = from_flat (λ (u : Labelled). opening_by host u u.token.kind) (labels past s) o m in
            (p.0, in_label past s p.0 p.1, is_opening host p.0 p.0.token.kind o refl p.2),
        λ x. in_flat (λ (u : Labelled). opening_by host u u.token.kind) (labels past s) x.0 o
            (label_in past s x.0 x.1) (opening_is host x.0 o x.2),
      );
      opens_once = once_from same_open (opens_of host past s) (λ x. names x.label x.label refl) t.1.1.0;
      gives_lock = λ label. (
        λ e. let p = gives_yes is_lock_kind past s label e in
            let k = lock_kind p.0.token.kind p.2 in (
              record { host = host; label = p.0.label; fid = p.0.token.fid; writing = k.0; span = k.1 },
              p.0,
              p.1,
              (refl, refl, refl, k.2),
              p.3,
            ),
        λ x. gives_is is_lock_kind past s label x.1 x.2 (subst (λ k. is_lock_kind k ≡ true) (sym x.3.3) refl) x.4,
      );
      gives_open = λ label. (
        λ e. let p = gives_yes is_open_kind past s label e in
            let k = open_kind p.0.token.kind p.2 in (
              record { host = host; label = p.0.label; fid = p.0.token.fid; kind = k.0 },
              p.0,
              p.1,
              (refl, refl, refl, k.1),
              p.3,
            ),
        λ x. gives_is is_open_kind past s label x.1 x.2 (subst (λ k. is_open_kind k ≡ true) (sym x.3.3) refl) x.4,
      );
      clean = λ fid. (clean_yes past s fid, clean_is past s fid);
      seen = λ v name id. (
        λ e. in_entered site (s ∷ past) (led v name id) t.0 (seen_yes (entered site (s ∷ past)) v name id e),
        λ x.
            let m = entered_in site (s ∷ past) v name id t.0 x in
            seen_is (entered site (s ∷ past)) v name id (at_all (λ l. one_id l.id l.server l.name (entered site (s
            ∷ past))) (entered site (s ∷ past)) (led v name id) t.1.1.1.0 m) m,
      );
    }

abbrev pub stance_of : (site : ServerId) (roster : Roster) (host : HostId) (user : User) (past : List Step) (s : Step)
    → user_of roster host ≡ Some user → passes (stance_tests site host past s) ≡ true → Stance roster host past s
stance_of site roster host user past s acts e = record {
  user = user;
  acts_for = acts;
  own = own_of site host past s;
  knows = knows_of site host past s e;
  held = hand s past;
  holds = λ t. (in_hand s past t, hand_in s past t);
  kept = held (s ∷ past);
  keeps = λ t. (in_held (s ∷ past) t, held_in (s ∷ past) t);
}
