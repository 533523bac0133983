-- Reading access lists is right.
use Rattle.std.proofs.Common.{◌≡◌, ℕ, zero, suc, ◌+◌, ◌<◌, ◌≤◌, Bool, true, false, ◌&&◌, cond, List, [], ◌∷◌, ◌++◌, length, Ok, refl, sym, ◌∙◌, ap, subst, arith, append_assoc, append-nil}
use Rattle.std.specs.Prelude.{not, nat_eq, nat_lt, nat_le, ◌||◌, ◌==◌}
use Rattle.std.proofs.lemmas.Bool.{and_parts, and_from, eqb-true, eq-eqb, ne_eqb, not-true, le-leb, leb-true}
use Rattle.std.proofs.lemmas.List.{length-append}
use Rattle.base_types.specs.Name.{is_among}
use Rattle.base_types.specs.Access.{same_who, has_who, is_distinct, is_access_list}
use Rattle.base_types.specs.declared.access.Who.{Who}
use Rattle.base_types.specs.declared.access.Who.TheVariants.{UserObj, User, GroupObj, Group, OtherObj, MaskObj}
use Rattle.base_types.specs.declared.access.AccessEntry.{AccessEntry}
use Rattle.message_parts.specs.Spelled.{Spelled, ◌&◌, nothing, one_byte, number, items}
use Rattle.message_parts.specs.Reading.{◌>>=◌, byte_at, number_at}
use Rattle.message_parts.specs.Words.{spell_name}
use Rattle.message_parts.specs.Places.{spell_rights, rights_at}
use Rattle.message_parts.specs.Access.{who_tag, spell_who_name, spell_access_entry, spell_access, missing, can_follow, with_name, names_in, fresh_name_at, who_at, next_entry_at, access_from, access_at}
use Rattle.message_parts.proofs.Fresh.{same_eq, same_self, fresh_spelled, fresh_name_right}
use Rattle.message_parts.proofs.More.{more_right}
use Rattle.message_parts.proofs.Parts.{moved, end_right, last_right, mapped, byte_right}
use Rattle.message_parts.proofs.Numbers.{number_right}
use Rattle.message_parts.proofs.Words.{code_bounds}
use Rattle.message_parts.proofs.Places.{rights_right}
use Rattle.message_parts.proofs.Right.{Spells, AreBytes, Right, Any, same, IsRight}

who_eq : (a b : Who) → same_who a b ≡ true → a ≡ b
who_eq UserObj UserObj e = refl
who_eq (User a) (User b) e = ap User (same_eq a b e)
who_eq GroupObj GroupObj e = refl
who_eq (Group a) (Group b) e = ap Group (same_eq a b e)
who_eq OtherObj OtherObj e = refl
who_eq MaskObj MaskObj e = refl
who_eq _ _ e = absurd (cc)

who_self : (a : Who) → same_who a a ≡ true
who_self UserObj = refl
who_self (User a) = same_self a
who_self GroupObj = refl
who_self (Group a) = same_self a
who_self OtherObj = refl
who_self MaskObj = refl

who_apart : (a b : Who) → same_who a b ≡ false → same_who b a ≡ false
who_apart a b e = by_test (same_who b a) refl
  where
    by_test : (v : Bool) → same_who b a ≡ v → same_who b a ≡ false
    by_test false t = t
    by_test true t =
        let h : b ≡ a = who_eq b a t in
        let k : same_who a b ≡ true = ap (λ v. same_who a v) h ∙ who_self a in
        absurd (cc)

or_assoc : (a b c : Bool) → (a || (b || c)) ≡ ((a || b) || c)
or_assoc true b c = refl
or_assoc false b c = refl

or_no : (a : Bool) → (a || false) ≡ a
or_no true = refl
or_no false = refl

or_yes : (a : Bool) → (a || true) ≡ true
or_yes true = refl
or_yes false = refl

or_parts : (a b : Bool) → (a || b) ≡ false → (a ≡ false) × (b ≡ false)
or_parts true b e = absurd (cc)
or_parts false b e = (refl, e)

has_append : (xs ys : List AccessEntry) (w : Who) → has_who (xs ++ ys) w ≡ (has_who xs w || has_who ys w)
has_append [] ys w = refl
has_append (x ∷ xs) ys w = ap (λ v. same_who x.who w || v) (has_append xs ys w) ∙ or_assoc (same_who x.who w) (has_who xs w) (has_who ys w)

distinct_more : (xs : List AccessEntry) (e : AccessEntry) → is_distinct xs ≡ true → has_who xs e.who ≡ false → is_distinct (xs ++ e ∷ []) ≡ true
distinct_more [] e d h = refl
distinct_more (x ∷ xs) e d h =
    let p = and_parts (not (has_who xs x.who)) (is_distinct xs) d in
    let q = or_parts (same_who x.who e.who) (has_who xs e.who) h in
    let n : has_who xs x.who ≡ false = not-true (has_who xs x.who) p.0 in
    let a : same_who e.who x.who ≡ false = who_apart x.who e.who q.0 in
    let m : has_who (xs ++ e ∷ []) x.who ≡ false = has_append xs (e ∷ []) x.who ∙ rw (n, a) refl in
    and_from (not (has_who (xs ++ e ∷ []) x.who)) (is_distinct (xs ++ e ∷ [])) (rw m refl) (distinct_more xs e p.1 q.1)

distinct_split : (xs : List AccessEntry) (e : AccessEntry) (ys : List AccessEntry) → is_distinct (xs ++ e ∷ ys) ≡ true → has_who xs e.who ≡ false
distinct_split [] e ys d = refl
distinct_split (x ∷ xs) e ys d =
    let p = and_parts (not (has_who (xs ++ e ∷ ys) x.who)) (is_distinct (xs ++ e ∷ ys)) d in
    let n : has_who (xs ++ e ∷ ys) x.who ≡ false = not-true (has_who (xs ++ e ∷ ys) x.who) p.0 in
    let q = or_parts (has_who xs x.who) (has_who (e ∷ ys) x.who) (sym (has_append xs (e ∷ ys) x.who) ∙ n) in
    let r = or_parts (same_who e.who x.who) (has_who ys x.who) q.1 in
    let a : same_who x.who e.who ≡ false = who_apart e.who x.who r.0 in
    rw a (distinct_split xs e ys p.1)

-- how many entries of the object are missing
abbrev pub lack : Bool → ℕ
lack b = cond b 0 1

abbrev pub got : Bool → ℕ
got b = cond b 1 0

lack_got : (a b : Bool) → (a || b) ≡ true → lack a ≤ got b
lack_got true b e = omega arith
lack_got false true e = omega arith
lack_got false false e = absurd (cc)

got_or : (a b : Bool) → got (a || b) ≤ got a + got b
got_or true true = omega arith
got_or true false = omega arith
got_or false true = omega arith
got_or false false = omega arith

abbrev pub has_got : List AccessEntry → ℕ
has_got ys = got (has_who ys UserObj) + got (has_who ys GroupObj) + got (has_who ys OtherObj)

who_once : (w : Who) → got (same_who w UserObj) + got (same_who w GroupObj) + got (same_who w OtherObj) ≤ 1
who_once UserObj = omega arith
who_once (User a) = omega arith
who_once GroupObj = omega arith
who_once (Group a) = omega arith
who_once OtherObj = omega arith
who_once MaskObj = omega arith

got_few : (ys : List AccessEntry) → has_got ys ≤ length ys
got_few [] = omega arith
got_few (y ∷ ys) =
    let u = got_or (same_who y.who UserObj) (has_who ys UserObj) in
    let g = got_or (same_who y.who GroupObj) (has_who ys GroupObj) in
    let o = got_or (same_who y.who OtherObj) (has_who ys OtherObj) in
    omega (arith, u, g, o, who_once y.who, got_few ys)

pub record IsList (xs : List AccessEntry) : Type 0 where
  pub few : length xs ≤ 16
  pub user : has_who xs UserObj ≡ true
  pub group : has_who xs GroupObj ≡ true
  pub other : has_who xs OtherObj ≡ true
  pub distinct : is_distinct xs ≡ true

pub list_parts : (xs : List AccessEntry) → is_access_list xs ≡ true → IsList xs
list_parts xs h =
    let l = nat_le (length xs) 16 in
    let p = and_parts (l && has_who xs UserObj && has_who xs GroupObj && has_who xs OtherObj) (is_distinct xs) h in
    let q = and_parts (l && has_who xs UserObj && has_who xs GroupObj) (has_who xs OtherObj) p.0 in
    let r = and_parts (l && has_who xs UserObj) (has_who xs GroupObj) q.0 in
    let s = and_parts l (has_who xs UserObj) r.0 in
    record { few = leb-true (length xs) 16 s.0; user = s.1; group = r.1; other = q.1; distinct = p.1 }

pub list_from : (xs : List AccessEntry) → IsList xs → is_access_list xs ≡ true
list_from xs h =
    let l = nat_le (length xs) 16 in
    and_from (l && has_who xs UserObj && has_who xs GroupObj && has_who xs OtherObj) (is_distinct xs)
    (and_from (l && has_who xs UserObj && has_who xs GroupObj) (has_who xs OtherObj)
    (and_from (l && has_who xs UserObj) (has_who xs GroupObj) (and_from l (has_who xs UserObj) (le-leb (length xs) 16 h.few) h.user) h.group) h.other) h.distinct

pub missing_left : (xs ys : List AccessEntry) → IsList (xs ++ ys) → missing xs ≤ length ys
missing_left xs ys h =
    let u = lack_got (has_who xs UserObj) (has_who ys UserObj) (sym (has_append xs ys UserObj) ∙ h.user) in
    let g = lack_got (has_who xs GroupObj) (has_who ys GroupObj) (sym (has_append xs ys GroupObj) ∙ h.group) in
    let o = lack_got (has_who xs OtherObj) (has_who ys OtherObj) (sym (has_append xs ys OtherObj) ∙ h.other) in
    omega (arith, u, g, o, got_few ys)

has_one_more : (xs : List AccessEntry) (e : AccessEntry) (w : Who) → has_who (xs ++ e ∷ []) w ≡ (has_who xs w || same_who e.who w)
has_one_more xs e w = has_append xs (e ∷ []) w ∙ ap (λ v. has_who xs w || v) (or_no (same_who e.who w))

abbrev pub missing_with : List AccessEntry → Who → ℕ
missing_with xs w = lack (has_who xs UserObj || same_who w UserObj) + lack (has_who xs GroupObj || same_who w GroupObj) + lack (has_who xs OtherObj || same_who w OtherObj)

missing_more : (xs : List AccessEntry) (e : AccessEntry) → missing (xs ++ e ∷ []) ≡ missing_with xs e.who
missing_more xs e = rw (has_one_more xs e UserObj, has_one_more xs e GroupObj, has_one_more xs e OtherObj) refl

-- an entry that doesn't count leaves as many missing
same_missing : (xs : List AccessEntry) → lack (has_who xs UserObj || false) + lack (has_who xs GroupObj || false) + lack (has_who xs OtherObj || false) ≡ missing xs
same_missing xs = rw (or_no (has_who xs UserObj), or_no (has_who xs GroupObj), or_no (has_who xs OtherObj)) refl

room_behind : (n : ℕ) (xs : List AccessEntry) (w : Who) → can_follow n xs (who_tag w) ≡ true → has_who xs w ≡ false → missing xs ≤ suc n → missing_with xs w ≤ n
room_behind n xs UserObj c h m =
    rw (or_yes (has_who xs UserObj), or_no (has_who xs GroupObj), or_no (has_who xs OtherObj)) (let k : 1 + lack (has_who xs GroupObj) + lack (has_who xs OtherObj) ≤ suc n = rw h at m in omega (arith, k))
room_behind n xs GroupObj c h m =
    rw (or_no (has_who xs UserObj), or_yes (has_who xs GroupObj), or_no (has_who xs OtherObj)) (let k : lack (has_who xs UserObj) + 1 + lack (has_who xs OtherObj) ≤ suc n = rw h at m in omega (arith, k))
room_behind n xs OtherObj c h m =
    rw (or_no (has_who xs UserObj), or_no (has_who xs GroupObj), or_yes (has_who xs OtherObj)) (let k : lack (has_who xs UserObj) + lack (has_who xs GroupObj) + 1 ≤ suc n = rw h at m in omega (arith, k))
room_behind n xs (User a) c h m = rw (same_missing xs) (leb-true (missing xs) n c)
room_behind n xs (Group a) c h m = rw (same_missing xs) (leb-true (missing xs) n c)
room_behind n xs MaskObj c h m = rw (same_missing xs) (leb-true (missing xs) n ((and_parts (not (has_who xs MaskObj)) (nat_le (missing xs) n) c).1))

may_follow : (n : ℕ) (xs : List AccessEntry) (w : Who) → has_who xs w ≡ false → missing_with xs w ≤ n → can_follow n xs (who_tag w) ≡ true
may_follow n xs UserObj h m = rw h refl
may_follow n xs GroupObj h m = rw h refl
may_follow n xs OtherObj h m = rw h refl
may_follow n xs (User a) h m = le-leb (missing xs) n (rw (same_missing xs) at m)
may_follow n xs (Group a) h m = le-leb (missing xs) n (rw (same_missing xs) at m)
may_follow n xs MaskObj h m = and_from (not (has_who xs MaskObj)) (nat_le (missing xs) n) (rw h refl) (le-leb (missing xs) n (rw (same_missing xs) at m))

-- some kind of entry can follow
some_tag : (n : ℕ) (xs : List AccessEntry) → missing xs ≤ suc n → (tag : ℕ) × (tag < 256) × (can_follow n xs tag ≡ true)
some_tag n xs m = by_user (has_who xs UserObj) refl
  where
    by_other : has_who xs UserObj ≡ true → has_who xs GroupObj ≡ true → (v : Bool) → has_who xs OtherObj ≡ v → (tag : ℕ) × (tag < 256) × (can_follow n xs tag ≡ true)
    by_other u g false t = (5, omega arith, rw t refl)
    by_other u g true t = (2, omega arith, le-leb (missing xs) n (rw (u, g, t) (omega arith)))

    by_group : has_who xs UserObj ≡ true → (v : Bool) → has_who xs GroupObj ≡ v → (tag : ℕ) × (tag < 256) × (can_follow n xs tag ≡ true)
    by_group u false t = (3, omega arith, rw t refl)
    by_group u true t = by_other u t (has_who xs OtherObj) refl

    by_user : (v : Bool) → has_who xs UserObj ≡ v → (tag : ℕ) × (tag < 256) × (can_follow n xs tag ≡ true)
    by_user false t = (1, omega arith, rw t refl)
    by_user true t = by_group t (has_who xs GroupObj) refl

-- the names of the entries
with_length : (group : Bool) (w : Who) (names : List (List ℕ)) → length (with_name group w names) ≤ suc (length names)
with_length false (User a) names = omega arith
with_length true (Group a) names = omega arith
with_length false UserObj names = omega arith
with_length false GroupObj names = omega arith
with_length false (Group a) names = omega arith
with_length false OtherObj names = omega arith
with_length false MaskObj names = omega arith
with_length true UserObj names = omega arith
with_length true (User a) names = omega arith
with_length true GroupObj names = omega arith
with_length true OtherObj names = omega arith
with_length true MaskObj names = omega arith

names_few : (group : Bool) (xs : List AccessEntry) → length (names_in group xs) ≤ length xs
names_few group [] = omega arith
names_few group (x ∷ xs) = omega (arith, with_length group x.who (names_in group xs), names_few group xs)

user_step : (w : Who) (name : List ℕ) (rest : Bool) (names : List (List ℕ)) → rest ≡ is_among names name → (same_who w (User name) || rest) ≡ is_among (with_name false w names) name
user_step UserObj name rest names e = e
user_step (User a) name rest names e = ap (λ v. same_who (User a) (User name) || v) e
user_step GroupObj name rest names e = e
user_step (Group a) name rest names e = e
user_step OtherObj name rest names e = e
user_step MaskObj name rest names e = e

pub has_user : (xs : List AccessEntry) (name : List ℕ) → has_who xs (User name) ≡ is_among (names_in false xs) name
has_user [] name = refl
has_user (x ∷ xs) name = user_step x.who name (has_who xs (User name)) (names_in false xs) (has_user xs name)

group_step : (w : Who) (name : List ℕ) (rest : Bool) (names : List (List ℕ)) → rest ≡ is_among names name → (same_who w (Group name) || rest) ≡ is_among (with_name true w names) name
group_step UserObj name rest names e = e
group_step (User a) name rest names e = e
group_step GroupObj name rest names e = e
group_step (Group a) name rest names e = ap (λ v. same_who (Group a) (Group name) || v) e
group_step OtherObj name rest names e = e
group_step MaskObj name rest names e = e

pub has_group : (xs : List AccessEntry) (name : List ℕ) → has_who xs (Group name) ≡ is_among (names_in true xs) name
has_group [] name = refl
has_group (x ∷ xs) name = group_step x.who name (has_who xs (Group name)) (names_in true xs) (has_group xs name)

-- what an entry speaks of, behind its tag
abbrev pub tagged_who : List AccessEntry → ℕ → Who → Spelled
tagged_who xs tag w = record { fits = (who_tag w == tag) && not (has_who xs w); bytes = [] } & spell_who_name w

only_user_obj : (w : Who) → who_tag w ≡ 1 → UserObj ≡ w
only_user_obj UserObj e = refl
only_user_obj _ e = absurd (omega (arith, e))

only_group_obj : (w : Who) → who_tag w ≡ 3 → GroupObj ≡ w
only_group_obj GroupObj e = refl
only_group_obj _ e = absurd (omega (arith, e))

only_other_obj : (w : Who) → who_tag w ≡ 5 → OtherObj ≡ w
only_other_obj OtherObj e = refl
only_other_obj _ e = absurd (omega (arith, e))

only_mask_obj : (w : Who) → who_tag w ≡ 6 → MaskObj ≡ w
only_mask_obj MaskObj e = refl
only_mask_obj _ e = absurd (omega (arith, e))

only_user : (w : Who) → who_tag w ≡ 2 → (name : List ℕ) × (User name ≡ w)
only_user (User name) e = (name, refl)
only_user _ e = absurd (omega (arith, e))

only_group : (w : Who) → who_tag w ≡ 4 → (name : List ℕ) × (Group name ≡ w)
only_group (Group name) e = (name, refl)
only_group _ e = absurd (omega (arith, e))

tag_fits : (xs : List AccessEntry) (tag : ℕ) (w : Who) → (tagged_who xs tag w).fits ≡ true → (who_tag w ≡ tag) × (not (has_who xs w) ≡ true) × ((spell_who_name w).fits ≡ true)
tag_fits xs tag w f =
    let p = and_parts ((who_tag w == tag) && not (has_who xs w)) (spell_who_name w).fits f in
    let q = and_parts (who_tag w == tag) (not (has_who xs w)) p.0 in
    (eqb-true (who_tag w) tag q.0, q.1, p.1)

fits_tag : (xs : List AccessEntry) (tag : ℕ) (w : Who) → who_tag w ≡ tag → not (has_who xs w) ≡ true → (spell_who_name w).fits ≡ true → (tagged_who xs tag w).fits ≡ true
fits_tag xs tag w e n f = and_from ((who_tag w == tag) && not (has_who xs w)) (spell_who_name w).fits (and_from (who_tag w == tag) (not (has_who xs w)) (eq-eqb (who_tag w) tag e) n) f

plain_who : (xs : List AccessEntry) (tag : ℕ) (w : Who) → who_tag w ≡ tag → not (has_who xs w) ≡ true → spell_who_name w ≡ nothing → ((v : Who) → who_tag v ≡ tag → w ≡ v)
    → IsRight (tagged_who xs tag) (λ rest. Ok (w, rest))
plain_who xs tag w e n none only = end_right Any (tagged_who xs tag) same w w tt (fits_tag xs tag w e n (ap (λ v. v.fits) none))
    (λ v any f. let i = only v ((tag_fits xs tag v f).0) in (sym i, ap (λ u. (spell_who_name u).bytes) (sym i) ∙ ap (λ u. u.bytes) none))

not_above : (n : ℕ) (xs : List AccessEntry) (tag : ℕ) → 7 ≤ tag → can_follow n xs tag ≡ true → ⊥
not_above n xs tag l c =
    let a : nat_eq tag 1 ≡ false = ne_eqb tag 1 (λ e. absurd (omega (arith, e, l))) in
    let b : nat_eq tag 3 ≡ false = ne_eqb tag 3 (λ e. absurd (omega (arith, e, l))) in
    let d : nat_eq tag 5 ≡ false = ne_eqb tag 5 (λ e. absurd (omega (arith, e, l))) in
    let f : nat_eq tag 6 ≡ false = ne_eqb tag 6 (λ e. absurd (omega (arith, e, l))) in
    let g : nat_eq tag 2 ≡ false = ne_eqb tag 2 (λ e. absurd (omega (arith, e, l))) in
    let h : nat_eq tag 4 ≡ false = ne_eqb tag 4 (λ e. absurd (omega (arith, e, l))) in
    let k : can_follow n xs tag ≡ false = rw (a, b, d, f, g, h) refl in
    let j : true ≡ false = sym c ∙ k in
    cc

module _ (xs : List AccessEntry) (few : length xs < 16) where
  user_right : IsRight (tagged_who xs 2) (who_at xs 2)
  unfolding who_at
  user_right = moved Any (fresh_spelled (names_in false xs) (omega (arith, few, names_few false xs))) User Any (tagged_who xs 2) same (who_at xs 2)
      (λ name bytes s.
      let p = and_parts (not (is_among (names_in false xs) name)) (spell_name name).fits s.fits in
      (User name, record { chosen = tt; fits = fits_tag xs 2 (User name) refl (ap not (has_user xs name) ∙ p.0) p.1; whole = s.whole }, refl))
      (λ w bytes s.
      let t = tag_fits xs 2 w s.fits in
      let (name, e) = only_user w t.0 in
      let n : not (has_who xs (User name)) ≡ true = rw e t.1 in
      let f : (spell_name name).fits ≡ true = ap (λ v. (spell_who_name v).fits) e ∙ t.2 in (
        name,
        record {
          chosen = tt;
          fits = and_from (not (is_among (names_in false xs) name)) (spell_name name).fits (ap not (sym (has_user xs name)) ∙ n) f;
          whole = s.whole ∙ ap (λ v. (tagged_who xs 2 v).bytes) (sym e);
        },
        e,
      ))
      (mapped Any (fresh_spelled (names_in false xs) (omega (arith, few, names_few false xs))) same User (fresh_name_at (names_in false xs)) (fresh_name_right (names_in false xs) (omega (arith, few, names_few false xs))))

  group_right : IsRight (tagged_who xs 4) (who_at xs 4)
  unfolding who_at
  group_right = moved Any (fresh_spelled (names_in true xs) (omega (arith, few, names_few true xs))) Group Any (tagged_who xs 4) same (who_at xs 4)
      (λ name bytes s.
      let p = and_parts (not (is_among (names_in true xs) name)) (spell_name name).fits s.fits in
      (Group name, record { chosen = tt; fits = fits_tag xs 4 (Group name) refl (ap not (has_group xs name) ∙ p.0) p.1; whole = s.whole }, refl))
      (λ w bytes s.
      let t = tag_fits xs 4 w s.fits in
      let (name, e) = only_group w t.0 in
      let n : not (has_who xs (Group name)) ≡ true = rw e t.1 in
      let f : (spell_name name).fits ≡ true = ap (λ v. (spell_who_name v).fits) e ∙ t.2 in (
        name,
        record {
          chosen = tt;
          fits = and_from (not (is_among (names_in true xs) name)) (spell_name name).fits (ap not (sym (has_group xs name)) ∙ n) f;
          whole = s.whole ∙ ap (λ v. (tagged_who xs 4 v).bytes) (sym e);
        },
        e,
      ))
      (mapped Any (fresh_spelled (names_in true xs) (omega (arith, few, names_few true xs))) same Group (fresh_name_at (names_in true xs)) (fresh_name_right (names_in true xs) (omega (arith, few, names_few true xs))))

  who_right : (n tag : ℕ) → can_follow n xs tag ≡ true → IsRight (tagged_who xs tag) (who_at xs tag)
  unfolding who_at
  who_right n zero c = absurd (cc)
  who_right n (suc zero) c = plain_who xs 1 UserObj refl c refl only_user_obj
  who_right n (suc (suc zero)) c = user_right
  who_right n (suc (suc (suc zero))) c = plain_who xs 3 GroupObj refl c refl only_group_obj
  who_right n (suc (suc (suc (suc zero)))) c = group_right
  who_right n (suc (suc (suc (suc (suc zero))))) c = plain_who xs 5 OtherObj refl c refl only_other_obj
  who_right n (suc (suc (suc (suc (suc (suc zero)))))) c = plain_who xs 6 MaskObj refl ((and_parts (not (has_who xs MaskObj)) (nat_le (missing xs) n) c).0) refl only_mask_obj
  who_right n (suc (suc (suc (suc (suc (suc (suc m))))))) c = absurd (not_above n xs (suc (suc (suc (suc (suc (suc (suc m))))))) (omega arith) c)

-- the next entry, which is new and leaves room for those of the object
abbrev pub new_entry : ℕ → List AccessEntry → AccessEntry → Spelled
new_entry n xs e = record { fits = not (has_who xs e.who) && nat_le (missing (xs ++ e ∷ [])) n; bytes = [] } & spell_access_entry e

tag_byte : (w : Who) → (number 1 1 6 (who_tag w)).bytes ≡ who_tag w ∷ []
unfolding number
tag_byte UserObj = refl
tag_byte (User a) = refl
tag_byte GroupObj = refl
tag_byte (Group a) = refl
tag_byte OtherObj = refl
tag_byte MaskObj = refl

tag_in_range : (w : Who) → ((number 1 1 6 (who_tag w)).fits ≡ true) × (nat_lt (who_tag w) 256 ≡ true)
unfolding number
tag_in_range UserObj = (refl, refl)
tag_in_range (User a) = (refl, refl)
tag_in_range GroupObj = (refl, refl)
tag_in_range (Group a) = (refl, refl)
tag_in_range OtherObj = (refl, refl)
tag_in_range MaskObj = (refl, refl)

-- the entry as it is read
abbrev pub fresh_who : List AccessEntry → Who → Spelled
fresh_who xs w = record { fits = not (has_who xs w); bytes = [] } & spell_who_name w

abbrev pub entry_parts : ℕ → List AccessEntry → AccessEntry → Spelled
entry_parts n xs e = one_byte (can_follow n xs) (who_tag e.who) & fresh_who xs e.who & spell_rights e.rights

abbrev pub entry_of : Who → ℕ → AccessEntry
entry_of who rights = record { who = who; rights = rights }

module _ (n : ℕ) (xs : List AccessEntry) (few : length xs < 16) (room : missing xs ≤ suc n) where
  behind_tag : (tag : ℕ) → can_follow n xs tag ≡ true → Right (λ e. Any e × (who_tag e.who ≡ tag)) (λ e. fresh_who xs e.who & spell_rights e.rights) same
      (λ rest. who_at xs tag rest >>= λ who rest. rights_at rest >>= λ rights rest. Ok (entry_of who rights, rest))
  behind_tag tag c =
      let among : AccessEntry → Type 0 = λ e. Any e × (who_tag e.who ≡ tag) in
      moved among (λ e. tagged_who xs tag e.who & spell_rights e.rights) same among (λ e. fresh_who xs e.who & spell_rights e.rights) same
      (λ rest. who_at xs tag rest >>= λ who rest. rights_at rest >>= λ rights rest. Ok (entry_of who rights, rest))
      (λ e bytes s.
      let p = and_parts (tagged_who xs tag e.who).fits (spell_rights e.rights).fits s.fits in
      let t = tag_fits xs tag e.who p.0 in
      (e, record { chosen = s.chosen; fits = and_from (fresh_who xs e.who).fits (spell_rights e.rights).fits (and_from (not (has_who xs e.who)) (spell_who_name e.who).fits t.1 t.2) p.1; whole = s.whole }, refl))
      (λ e bytes s.
      let p = and_parts (fresh_who xs e.who).fits (spell_rights e.rights).fits s.fits in
      let q = and_parts (not (has_who xs e.who)) (spell_who_name e.who).fits p.0 in
      (e, record { chosen = s.chosen; fits = and_from (tagged_who xs tag e.who).fits (spell_rights e.rights).fits (fits_tag xs tag e.who s.chosen.1 q.0 q.1) p.1; whole = s.whole }, refl))
      (more_right among (tagged_who xs tag) (λ e. spell_rights e.rights) (λ e. e.who) same (who_at xs tag)
      (λ who rest. rights_at rest >>= λ rights rest. Ok (entry_of who rights, rest)) (who_right xs few n tag c)
      (λ who f. last_right (λ e. (Any e × (who_tag e.who ≡ tag)) × (e.who ≡ who)) Any spell_rights (λ e. e.rights) same (entry_of who) rights_at
      (λ r any. (entry_of who r, ((tt, (tag_fits xs tag who f).0), refl), refl))
      (λ e c. (tt, rw (← c.1) refl))
      rights_right))

  to_new : (e : AccessEntry) → (entry_parts n xs e).fits ≡ true → (new_entry n xs e).fits ≡ true
  unfolding spell_access_entry
  to_new e f =
      let p = and_parts (nat_lt (who_tag e.who) 256 && can_follow n xs (who_tag e.who)) ((fresh_who xs e.who).fits && (spell_rights e.rights).fits) f in
      let q = and_parts (nat_lt (who_tag e.who) 256) (can_follow n xs (who_tag e.who)) p.0 in
      let r = and_parts (fresh_who xs e.who).fits (spell_rights e.rights).fits p.1 in
      let s = and_parts (not (has_who xs e.who)) (spell_who_name e.who).fits r.0 in
      let h : has_who xs e.who ≡ false = not-true (has_who xs e.who) s.0 in
      let m : missing (xs ++ e ∷ []) ≤ n = rw (missing_more xs e) (room_behind n xs e.who q.1 h room) in
      and_from (not (has_who xs e.who) && nat_le (missing (xs ++ e ∷ [])) n) ((number 1 1 6 (who_tag e.who)).fits && ((spell_who_name e.who).fits && (spell_rights e.rights).fits))
      (and_from (not (has_who xs e.who)) (nat_le (missing (xs ++ e ∷ [])) n) s.0 (le-leb (missing (xs ++ e ∷ [])) n m))
      (and_from (number 1 1 6 (who_tag e.who)).fits ((spell_who_name e.who).fits && (spell_rights e.rights).fits) ((tag_in_range e.who).0)
      (and_from (spell_who_name e.who).fits (spell_rights e.rights).fits s.1 r.1))

  from_new : (e : AccessEntry) → (new_entry n xs e).fits ≡ true → (entry_parts n xs e).fits ≡ true
  unfolding spell_access_entry
  from_new e f =
      let p = and_parts (not (has_who xs e.who) && nat_le (missing (xs ++ e ∷ [])) n) ((number 1 1 6 (who_tag e.who)).fits && ((spell_who_name e.who).fits && (spell_rights e.rights).fits)) f in
      let q = and_parts (not (has_who xs e.who)) (nat_le (missing (xs ++ e ∷ [])) n) p.0 in
      let r = and_parts (number 1 1 6 (who_tag e.who)).fits ((spell_who_name e.who).fits && (spell_rights e.rights).fits) p.1 in
      let s = and_parts (spell_who_name e.who).fits (spell_rights e.rights).fits r.1 in
      let h : has_who xs e.who ≡ false = not-true (has_who xs e.who) q.0 in
      let m : missing_with xs e.who ≤ n = let k = leb-true (missing (xs ++ e ∷ [])) n q.1 in rw (missing_more xs e) at k in
      and_from (nat_lt (who_tag e.who) 256 && can_follow n xs (who_tag e.who)) ((fresh_who xs e.who).fits && (spell_rights e.rights).fits)
      (and_from (nat_lt (who_tag e.who) 256) (can_follow n xs (who_tag e.who)) ((tag_in_range e.who).1) (may_follow n xs e.who h m))
      (and_from (fresh_who xs e.who).fits (spell_rights e.rights).fits (and_from (not (has_who xs e.who)) (spell_who_name e.who).fits q.0 s.0) s.1)

  same_bytes : (e : AccessEntry) → (entry_parts n xs e).bytes ≡ (new_entry n xs e).bytes
  unfolding spell_access_entry
  same_bytes e = ap (λ v. v ++ ((spell_who_name e.who).bytes ++ (spell_rights e.rights).bytes)) (sym (tag_byte e.who))

  pub new_entry_right : IsRight (new_entry n xs) (next_entry_at n xs)
  unfolding next_entry_at
  new_entry_right =
      let (b, low, passes) = some_tag n xs room in
      moved Any (entry_parts n xs) same Any (new_entry n xs) same (next_entry_at n xs)
      (λ e bytes s. (e, record { chosen = tt; fits = to_new e s.fits; whole = s.whole ∙ same_bytes e }, refl))
      (λ e bytes s. (e, record { chosen = tt; fits = from_new e s.fits; whole = s.whole ∙ sym (same_bytes e) }, refl))
      (more_right Any (one_byte (can_follow n xs)) (λ e. fresh_who xs e.who & spell_rights e.rights) (λ e. who_tag e.who) same (byte_at (can_follow n xs))
      (λ tag rest. who_at xs tag rest >>= λ who rest. rights_at rest >>= λ rights rest. Ok (entry_of who rights, rest)) (byte_right (can_follow n xs) b low passes)
      (λ tag f. behind_tag tag ((and_parts (nat_lt tag 256) (can_follow n xs tag) f).1)))

-- these entries can be completed by so many more
pub record Room (lacking : ℕ) (xs : List AccessEntry) : Type 0 where
  pub distinct : is_distinct xs ≡ true
  pub few : length xs + lacking ≤ 16
  pub covered : missing xs ≤ lacking

lack_none : (b : Bool) → lack b ≤ 0 → b ≡ true
lack_none true h = refl
lack_none false h = absurd (omega (arith, h))

full_list : (xs : List AccessEntry) → Room 0 xs → is_access_list xs ≡ true
full_list xs r =
    let m = r.covered in
    let f = r.few in
    list_from xs (record {
      few = omega (arith, f);
      user = lack_none (has_who xs UserObj) (omega (arith, m));
      group = lack_none (has_who xs GroupObj) (omega (arith, m));
      other = lack_none (has_who xs OtherObj) (omega (arith, m));
      distinct = r.distinct;
    })

abbrev pub list_rest : List AccessEntry → List AccessEntry → Spelled
list_rest xs es = record { fits = is_access_list (xs ++ es); bytes = [] } & items spell_access_entry es

abbrev pub has_length : ℕ → List AccessEntry → Type 0
has_length n es = length es ≡ n

no_more : (es : List AccessEntry) → length es ≡ 0 → es ≡ []
no_more [] e = refl
no_more (x ∷ xs) e = absurd (cc)

one_more : (n : ℕ) (es : List AccessEntry) → length es ≡ suc n → (x : AccessEntry) × (ys : List AccessEntry) × (x ∷ ys ≡ es) × (length ys ≡ n)
one_more n [] e = absurd (cc)
one_more n (x ∷ ys) e = (x, ys, refl, omega (arith, e))

abbrev pub rest_behind : List AccessEntry → AccessEntry × List AccessEntry → Spelled
rest_behind xs p = record { fits = is_access_list (xs ++ p.0 ∷ p.1); bytes = [] } & items spell_access_entry p.1

abbrev pub joined_list : List AccessEntry → AccessEntry × List AccessEntry → List AccessEntry
joined_list xs p = xs ++ p.0 ∷ p.1

abbrev pub rest_length : ℕ → AccessEntry × List AccessEntry → Type 0
rest_length n p = length p.1 ≡ n

next_room : (n : ℕ) (xs : List AccessEntry) (e : AccessEntry) → Room (suc n) xs → (new_entry n xs e).fits ≡ true → Room n (xs ++ e ∷ [])
next_room n xs e r f =
    let p = and_parts (not (has_who xs e.who) && nat_le (missing (xs ++ e ∷ [])) n) (spell_access_entry e).fits f in
    let q = and_parts (not (has_who xs e.who)) (nat_le (missing (xs ++ e ∷ [])) n) p.0 in
    let l = r.few in
    record {
      distinct = distinct_more xs e r.distinct (not-true (has_who xs e.who) q.0);
      few = omega (arith, length-append xs (e ∷ []), l);
      covered = leb-true (missing (xs ++ e ∷ [])) n q.1;
    }

to_list : (n : ℕ) (xs : List AccessEntry) (e : AccessEntry) (es : List AccessEntry) → ((new_entry n xs e).fits && (rest_behind xs (e, es)).fits) ≡ true → (list_rest xs (e ∷ es)).fits ≡ true
unfolding items
to_list n xs e es f =
    let p = and_parts (new_entry n xs e).fits (rest_behind xs (e, es)).fits f in
    let q = and_parts (not (has_who xs e.who) && nat_le (missing (xs ++ e ∷ [])) n) (spell_access_entry e).fits p.0 in
    let r = and_parts (is_access_list (xs ++ e ∷ es)) (items spell_access_entry es).fits p.1 in
    and_from (is_access_list (xs ++ e ∷ es)) ((spell_access_entry e).fits && (items spell_access_entry es).fits) r.0 (and_from (spell_access_entry e).fits (items spell_access_entry es).fits q.1 r.1)

from_list : (n : ℕ) (xs : List AccessEntry) (e : AccessEntry) (es : List AccessEntry) → length es ≡ n → (list_rest xs (e ∷ es)).fits ≡ true → ((new_entry n xs e).fits && (rest_behind xs (e, es)).fits) ≡ true
unfolding items
from_list n xs e es l f =
    let p = and_parts (is_access_list (xs ++ e ∷ es)) ((spell_access_entry e).fits && (items spell_access_entry es).fits) f in
    let q = and_parts (spell_access_entry e).fits (items spell_access_entry es).fits p.1 in
    let h = list_parts (xs ++ e ∷ es) p.0 in
    let a : has_who xs e.who ≡ false = distinct_split xs e es h.distinct in
    let i : IsList ((xs ++ e ∷ []) ++ es) = subst IsList (sym (append_assoc xs (e ∷ []) es)) h in
    let m : missing (xs ++ e ∷ []) ≤ n = let k = missing_left (xs ++ e ∷ []) es i in omega (arith, k, l) in
    and_from (new_entry n xs e).fits (rest_behind xs (e, es)).fits
    (and_from (not (has_who xs e.who) && nat_le (missing (xs ++ e ∷ [])) n) (spell_access_entry e).fits
    (and_from (not (has_who xs e.who)) (nat_le (missing (xs ++ e ∷ [])) n) (rw a refl) (le-leb (missing (xs ++ e ∷ [])) n m)) q.0)
    (and_from (is_access_list (xs ++ e ∷ es)) (items spell_access_entry es).fits p.0 q.1)

back_to_list : (n : ℕ) (xs es : List AccessEntry) (bytes : List ℕ) → Spells (has_length (suc n)) (list_rest xs) es bytes
    → (p : AccessEntry × List AccessEntry) × Spells (rest_length n) (λ p. new_entry n xs p.0 & rest_behind xs p) p bytes × (joined_list xs p ≡ xs ++ es)
unfolding items
back_to_list n xs es bytes s =
    let (y, ys, e, l) = one_more n es s.chosen in
    let f : (list_rest xs (y ∷ ys)).fits ≡ true = ap (λ v. (list_rest xs v).fits) e ∙ s.fits in
    ((y, ys), record { chosen = l; fits = from_list n xs y ys l f; whole = s.whole ∙ ap (λ v. (list_rest xs v).bytes) (sym e) }, ap (λ v. xs ++ v) e)

behind_entry : (n : ℕ) (xs : List AccessEntry) (e : AccessEntry) → Right (has_length n) (list_rest (xs ++ e ∷ [])) (λ es. (xs ++ e ∷ []) ++ es) (access_from n (xs ++ e ∷ []))
    → Right (λ p. rest_length n p × (p.0 ≡ e)) (rest_behind xs) (joined_list xs) (access_from n (xs ++ e ∷ []))
behind_entry n xs e right = moved (has_length n) (list_rest (xs ++ e ∷ [])) (λ es. (xs ++ e ∷ []) ++ es)
    (λ p. rest_length n p × (p.0 ≡ e)) (rest_behind xs) (joined_list xs) (access_from n (xs ++ e ∷ []))
    (λ es bytes s. ((e, es), record { chosen = (s.chosen, refl); fits = ap (λ v. is_access_list v && (items spell_access_entry es).fits) (sym (append_assoc xs (e ∷ []) es)) ∙ s.fits; whole = s.whole }, append_assoc xs (e ∷ []) es))
    (λ p bytes s.
    let j : (xs ++ e ∷ []) ++ p.1 ≡ xs ++ p.0 ∷ p.1 = append_assoc xs (e ∷ []) p.1 ∙ ap (λ v. xs ++ v ∷ p.1) (sym s.chosen.1) in
    (p.1, record { chosen = s.chosen.0; fits = ap (λ v. is_access_list v && (items spell_access_entry p.1).fits) j ∙ s.fits; whole = s.whole }, j))
    right

list_right : (n : ℕ) (xs : List AccessEntry) → Room n xs → Right (has_length n) (list_rest xs) (λ es. xs ++ es) (access_from n xs)
unfolding items
list_right zero xs r = end_right (has_length 0) (list_rest xs) (λ es. xs ++ es) xs [] refl (rw (append-nil xs, full_list xs r) refl)
    (λ es l f. (ap (λ v. xs ++ v) (no_more es l) ∙ append-nil xs, ap (λ v. (list_rest xs v).bytes) (no_more es l)))
list_right (suc n) xs r =
    moved (rest_length n) (λ p. new_entry n xs p.0 & rest_behind xs p) (joined_list xs) (has_length (suc n)) (list_rest xs) (λ es. xs ++ es) (access_from (suc n) xs)
    (λ p bytes s. (p.0 ∷ p.1, record { chosen = (let h : length p.1 ≡ n = s.chosen in omega (arith, h)); fits = to_list n xs p.0 p.1 s.fits; whole = s.whole }, refl))
    (λ es bytes s. back_to_list n xs es bytes s)
    (more_right (rest_length n) (new_entry n xs) (rest_behind xs) (λ p. p.0) (joined_list xs) (next_entry_at n xs) (λ e rest. access_from n (xs ++ e ∷ []) rest)
    (new_entry_right n xs (let l = r.few in omega (arith, l)) r.covered)
    (λ e f. behind_entry n xs e (list_right n (xs ++ e ∷ []) (next_room n xs e r f))))

abbrev pub count_first : List AccessEntry → Spelled
count_first es = number 1 3 16 (length es) & list_rest [] es

pub access_right : IsRight spell_access access_at
unfolding spell_access access_at
access_right = moved Any count_first same Any spell_access same access_at
    (λ es bytes s.
    let p = and_parts (number 1 3 16 (length es)).fits (is_access_list es && (items spell_access_entry es).fits) s.fits in
    let q = and_parts (is_access_list es) (items spell_access_entry es).fits p.1 in
    (es, record { chosen = tt; fits = and_from (is_access_list es) ((number 1 3 16 (length es)).fits && (items spell_access_entry es).fits) q.0 (and_from (number 1 3 16 (length es)).fits (items spell_access_entry es).fits p.0 q.1); whole = s.whole }, refl))
    (λ es bytes s.
    let p = and_parts (is_access_list es) ((number 1 3 16 (length es)).fits && (items spell_access_entry es).fits) s.fits in
    let q = and_parts (number 1 3 16 (length es)).fits (items spell_access_entry es).fits p.1 in
    (es, record { chosen = tt; fits = and_from (number 1 3 16 (length es)).fits (is_access_list es && (items spell_access_entry es).fits) q.0 (and_from (is_access_list es) (items spell_access_entry es).fits p.0 q.1); whole = s.whole }, refl))
    (more_right Any (number 1 3 16) (list_rest []) length same (number_at 1 3 16) (λ count rest. access_from count [] rest) (number_right 3 16 (omega arith) 1 (omega arith))
    (λ count f.
    let b = code_bounds 3 16 count f in
    moved (has_length count) (list_rest []) same (λ es. Any es × (length es ≡ count)) (list_rest []) same (access_from count [])
    (λ es bytes s. (es, record { chosen = (tt, s.chosen); fits = s.fits; whole = s.whole }, refl))
    (λ es bytes s. (es, record { chosen = s.chosen.1; fits = s.fits; whole = s.whole }, refl))
    (list_right count [] (record { distinct = refl; few = omega (arith, b.1); covered = omega (arith, b.0) }))))

-- what is read is an access list
pub read_list : (count : ℕ) (bytes rest : List ℕ) (es : List AccessEntry) → 3 ≤ count → count ≤ 16 → AreBytes bytes → access_from count [] bytes ≡ Ok (es, rest) → is_access_list es ≡ true
read_list count bytes rest es low high are e =
    let r = list_right count [] (record { distinct = refl; few = omega (arith, high); covered = omega (arith, low) }) in
    let f = r.found bytes es rest are e in
    let p = and_parts (is_access_list f.value) (items spell_access_entry f.value).fits f.spells.fits in
    ap is_access_list f.is ∙ p.0
