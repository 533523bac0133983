-- Reading a name that is none of others, byte by byte, and entries one by one.
use Rattle.std.proofs.Common.{◌≡◌, ℕ, zero, suc, ◌+◌, ◌-◌, ◌<◌, ◌≤◌, Bool, true, false, ◌&&◌, List, [], ◌∷◌, ◌++◌, length, Ok, Err, refl, sym, ◌∙◌, ap, subst, arith}
use Rattle.std.specs.Prelude.{nat_le, not, ◌||◌}
use Rattle.std.specs.List.{list_any}
use Rattle.std.proofs.lemmas.Bool.{and_parts, and_from, le-leb, not-true}
use Rattle.std.proofs.lemmas.List.{length-append}
use Rattle.base_types.specs.Name.{is_name, is_separator, is_among, same_name}
use Rattle.base_types.specs.declared.access.Who.{Who}
use Rattle.base_types.specs.declared.access.Who.TheVariants.{UserObj, User, GroupObj, Group, OtherObj, MaskObj}
use Rattle.base_types.specs.declared.access.AccessEntry.{AccessEntry}
use Rattle.message_parts.specs.declared.part.Stopped.{Stopped}
use Rattle.message_parts.specs.declared.part.Stopped.TheVariants.{Bad, Memory}
use Rattle.message_parts.specs.Reading.{Reading, ◌>>=◌, byte_at, Fails}
use Rattle.message_parts.specs.Words.{is_plain}
use Rattle.message_parts.specs.Access.{may_be, fresh_from, with_name, next_entry_at, access_from}
use Rattle.message_parts.proofs.More.{ok_both, ok_then}
use Rattle.message_parts.proofs.Digits.{byte_passed}

pub may_be_more : (taken : List (List ℕ)) (lacking : ℕ) (name : List ℕ) → 0 < lacking → may_be taken lacking name ≡ true
may_be_more taken zero name h = absurd (omega (arith, h))
may_be_more taken (suc lacking) name h = refl

one_less : (n : ℕ) → 0 < n → n ≡ suc (n - 1)
one_less n h = omega arith

pub fresh_goes_on : (taken : List (List ℕ)) (lacking : ℕ) (front shown rest : List ℕ) (byte : ℕ) (behind : List ℕ) (total : Reading (List ℕ)) → 0 < lacking → shown ≡ front
    → byte_at (λ b. is_plain b && may_be taken (lacking - 1) (shown ++ b ∷ [])) rest ≡ Ok (byte, behind)
    → fresh_from taken lacking front rest ≡ total → fresh_from taken (lacking - 1) (front ++ byte ∷ []) behind ≡ total
fresh_goes_on taken lacking front shown rest byte behind total pos is told so_far =
    let e : byte_at (λ b. is_plain b && may_be taken (lacking - 1) (front ++ b ∷ [])) rest ≡ Ok (byte, behind) =
    subst (λ v. byte_at (λ b. is_plain b && may_be taken (lacking - 1) (v ++ b ∷ [])) rest ≡ Ok (byte, behind)) is told in
    let k : lacking ≡ suc (lacking - 1) = one_less lacking pos in
    let one : fresh_from taken (suc (lacking - 1)) front rest ≡ fresh_from taken (lacking - 1) (front ++ byte ∷ []) behind =
    ap (λ v. v >>= λ b r. fresh_from taken (lacking - 1) (front ++ b ∷ []) r) e in
    sym one ∙ ap (λ v. fresh_from taken v front rest) (sym k) ∙ so_far

pub fresh_stops : (taken : List (List ℕ)) (lacking : ℕ) (front shown rest : List ℕ) (e : Stopped) (total : Reading (List ℕ)) → 0 < lacking → shown ≡ front
    → Fails e (byte_at (λ b. is_plain b && may_be taken (lacking - 1) (shown ++ b ∷ [])) rest)
    → fresh_from taken lacking front rest ≡ total → Fails e total
fresh_stops taken lacking front shown rest Memory total pos is told so_far = tt
fresh_stops taken lacking front shown rest (Bad left) total pos is told so_far =
    let e : byte_at (λ b. is_plain b && may_be taken (lacking - 1) (front ++ b ∷ [])) rest ≡ Err left =
    subst (λ v. byte_at (λ b. is_plain b && may_be taken (lacking - 1) (v ++ b ∷ [])) rest ≡ Err left) is told in
    let k : lacking ≡ suc (lacking - 1) = one_less lacking pos in
    let one : fresh_from taken (suc (lacking - 1)) front rest ≡ Err left = ap (λ v. v >>= λ b r. fresh_from taken (lacking - 1) (front ++ b ∷ []) r) e in
    sym so_far ∙ ap (λ v. fresh_from taken v front rest) k ∙ one

pub entries_go_on : (lacking : ℕ) (front shown : List AccessEntry) (rest : List ℕ) (entry : AccessEntry) (behind : List ℕ) (total : Reading (List AccessEntry)) → 0 < lacking → shown ≡ front
    → next_entry_at (lacking - 1) shown rest ≡ Ok (entry, behind) → access_from lacking front rest ≡ total → access_from (lacking - 1) (front ++ entry ∷ []) behind ≡ total
entries_go_on lacking front shown rest entry behind total pos is told so_far =
    let e : next_entry_at (lacking - 1) front rest ≡ Ok (entry, behind) = subst (λ v. next_entry_at (lacking - 1) v rest ≡ Ok (entry, behind)) is told in
    let k : lacking ≡ suc (lacking - 1) = one_less lacking pos in
    let one : access_from (suc (lacking - 1)) front rest ≡ access_from (lacking - 1) (front ++ entry ∷ []) behind =
    ap (λ v. v >>= λ x r. access_from (lacking - 1) (front ++ x ∷ []) r) e in
    sym one ∙ ap (λ v. access_from v front rest) (sym k) ∙ so_far

pub entries_stop : (lacking : ℕ) (front shown : List AccessEntry) (rest : List ℕ) (e : Stopped) (total : Reading (List AccessEntry)) → 0 < lacking → shown ≡ front
    → Fails e (next_entry_at (lacking - 1) shown rest) → access_from lacking front rest ≡ total → Fails e total
entries_stop lacking front shown rest Memory total pos is told so_far = tt
entries_stop lacking front shown rest (Bad left) total pos is told so_far =
    let e : next_entry_at (lacking - 1) front rest ≡ Err left = subst (λ v. next_entry_at (lacking - 1) v rest ≡ Err left) is told in
    let k : lacking ≡ suc (lacking - 1) = one_less lacking pos in
    let one : access_from (suc (lacking - 1)) front rest ≡ Err left = ap (λ v. v >>= λ x r. access_from (lacking - 1) (front ++ x ∷ []) r) e in
    sym so_far ∙ ap (λ v. access_from v front rest) k ∙ one

any_more : (xs : List ℕ) (b : ℕ) → list_any is_separator xs ≡ false → is_separator b ≡ false → list_any is_separator (xs ++ b ∷ []) ≡ false
any_more [] b e h = rw h refl
any_more (x ∷ xs) b e h = by_first (is_separator x) refl (any_more xs b)
  where
    by_first : (v : Bool) → is_separator x ≡ v → (list_any is_separator xs ≡ false → is_separator b ≡ false → list_any is_separator (xs ++ b ∷ []) ≡ false) → list_any is_separator ((x ∷ xs) ++ b ∷ []) ≡ false
    by_first true t again = absurd (let k : true ≡ false = rw t at e in cc)
    by_first false t again = let k : list_any is_separator xs ≡ false = rw t at e in rw t (again k h)

fresh_plain : (taken : List (List ℕ)) (k : ℕ) (front bytes xs rest : List ℕ) → fresh_from taken k front bytes ≡ Ok (xs, rest) → list_any is_separator front ≡ false
    → (length xs ≡ length front + k) × (list_any is_separator xs ≡ false)
fresh_plain taken zero front bytes xs rest e h =
    let i = (ok_both front xs bytes rest e).0 in
    (rw (← i) (omega arith), rw (← i) h)
fresh_plain taken (suc k) front bytes xs rest e h =
    let test : ℕ → Bool = λ b. is_plain b && may_be taken k (front ++ b ∷ []) in
    let (b, mid, f, n) = ok_then (byte_at test bytes) (λ b r. fresh_from taken k (front ++ b ∷ []) r) xs rest e in
    let p : is_plain b ≡ true = (and_parts (is_plain b) (may_be taken k (front ++ b ∷ [])) (byte_passed test bytes b mid f)).0 in
    let (l, s) = fresh_plain taken k (front ++ b ∷ []) mid xs rest n (any_more front b h (not-true (is_separator b) p)) in
    (omega (arith, l, length-append front (b ∷ [])), s)

pub fresh_is_name : (taken : List (List ℕ)) (count : ℕ) (bytes xs rest : List ℕ) → 1 ≤ count → count ≤ 60 → fresh_from taken count [] bytes ≡ Ok (xs, rest) → is_name xs ≡ true
fresh_is_name taken count bytes xs rest least most e =
    let (l, s) = fresh_plain taken count [] bytes xs rest e refl in
    and_from (nat_le 1 (length xs) && nat_le (length xs) 60) (not (list_any is_separator xs))
    (and_from (nat_le 1 (length xs)) (nat_le (length xs) 60) (le-leb 1 (length xs) (omega (arith, l, least))) (le-leb (length xs) 60 (omega (arith, l, most))))
    (rw s refl)

-- a name is among those of the entries where it is that of the first or among those of the others
or_last : (a b : Bool) → ((a || false) || b) ≡ (a || b)
or_last true b = refl
or_last false b = refl

pub first_named : (group : Bool) (w : Who) (names : List (List ℕ)) (name : List ℕ) → is_among (with_name group w names) name ≡ (is_among (with_name group w []) name || is_among names name)
first_named false (User a) names name = sym (or_last (same_name a name) (is_among names name))
first_named true (Group a) names name = sym (or_last (same_name a name) (is_among names name))
first_named false UserObj names name = refl
first_named false GroupObj names name = refl
first_named false (Group a) names name = refl
first_named false OtherObj names name = refl
first_named false MaskObj names name = refl
first_named true UserObj names name = refl
first_named true (User a) names name = refl
first_named true GroupObj names name = refl
first_named true OtherObj names name = refl
first_named true MaskObj names name = refl
