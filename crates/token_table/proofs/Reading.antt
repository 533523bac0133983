-- What is read of notes after a change.
use Rattle.std.proofs.Common.{◌≡◌, ℕ, Bool, true, false, ◌==◌, ◌&&◌, not, cond, List, [], ◌∷◌, ◌++◌, Option, Some, None}
use Rattle.std.proofs.Common.{Result, Ok, Err, is_some}
use Rattle.std.proofs.Common.{◌||◌, option_map, refl, sym, ap, ◌∙◌, inl, inr, arith}
use Rattle.std.specs.Prelude.{All}
use Rattle.std.specs.Cmp.{IsTotalOrder, eq_by_cmp_equiv}
use Rattle.std.specs.List.{filter, AllByRecursion, IsDistinct}
use Rattle.std.specs.Map.{lookup, keys_of}
use Rattle.std.specs.List.Sorted.{IsStrictlySortedBy}
use Rattle.std.specs.Result.{OnOk, OnErr}
use Rattle.std.specs.Option.{IsSome}
use Rattle.std.specs.Ordering.{nat_cmp, eq_by_cmp, is_eq, ordering_then}
use Rattle.std.specs.declared.cmp.Ordering.{Ordering}
use Rattle.std.specs.declared.cmp.Ordering.TheVariants.{Less, Equal, Greater}
use Rattle.std.specs.BTreeMap.{BTreeMap, get, is_at}
use Rattle.std.specs.FinMap as map
use Rattle.std.proofs.lemmas.Bool.{cases_Bool, false≢true}
use Rattle.std.proofs.lemmas.Bool.Decides.{nat_tests}
use Rattle.std.proofs.lemmas.Cmp.{then_total, on_total, nat_cmp_total}
use Rattle.std.proofs.lemmas.List.Elements.{All-head, All-tail}
use Rattle.std.proofs.lemmas.Map.Keys.{IsDistinct-head, IsDistinct-tail, IsDistinct-from_sorted}
use Rattle.std.proofs.lemmas.Map.Lookups.{exact_unsigned, exact_pairs}
use Rattle.base_types.specs.declared.ids.HostId.{HostId}
use Rattle.token_types.specs.Conflicts.{same_id}
use Rattle.token_types.specs.declared.token.Token.{Token}
use Rattle.token_types.specs.declared.token.TokenId.{TokenId}
use Rattle.token_table.specs.Tables.{has_id}
use Rattle.token_table.proofs.Shelving.{one_id}
use Rattle.token_table.specs.declared.notes.Note.{Note}
use Rattle.token_table.specs.Marks.{NoteKey, NoteMap, key_of, key_cmp, note_at, with_note, without_note, with_each}
use Rattle.token_table.specs.Marks.{without_each, is_note_of, without_notes_of, put_if}

pub key_total : IsTotalOrder key_cmp
key_total = then_total (on_total (λ (k : NoteKey). k.0) nat_cmp_total)
    (then_total (on_total (λ (k : NoteKey). k.1.0) nat_cmp_total) (on_total (λ (k : NoteKey). k.1.1) nat_cmp_total))

pub key_exact : map.IsAntisymmetric key_cmp
key_exact = exact_pairs nat_cmp (λ a b. ordering_then (nat_cmp a.0 b.0) (nat_cmp a.1 b.1)) exact_unsigned
    (exact_pairs nat_cmp nat_cmp exact_unsigned exact_unsigned)

eq_then : (x y : Ordering) → is_eq (ordering_then x y) ≡ (is_eq x && is_eq y)
eq_then Less y = refl
eq_then Equal y = refl
eq_then Greater y = refl

eq_nat : (a b : ℕ) → is_eq (nat_cmp a b) ≡ (b == a)
eq_nat a b = grind (arith, nat_tests)

and_regrouped : (x y z : Bool) → (x && (y && z)) ≡ ((x && y) && z)
and_regrouped true y z = refl
and_regrouped false y z = refl

-- keys tie where the numbers are the same
pub same_key : (a b : TokenId) → eq_by_cmp key_cmp (key_of a) (key_of b) ≡ same_id b a
same_key a b =
    eq_then (nat_cmp a.server.0 b.server.0) (ordering_then (nat_cmp a.epoch b.epoch) (nat_cmp a.seq b.seq))
    ∙ (λ i. eq_nat a.server.0 b.server.0 i && eq_then (nat_cmp a.epoch b.epoch) (nat_cmp a.seq b.seq) i)
    ∙ (λ i. (b.server.0 == a.server.0) && (eq_nat a.epoch b.epoch i && eq_nat a.seq b.seq i))
    ∙ and_regrouped (b.server.0 == a.server.0) (b.epoch == a.epoch) (b.seq == a.seq)

-- a search in the entries, in both words
pub found : (q : NoteKey) (es : List (NoteKey × Note)) → map.find key_cmp q es ≡ lookup (is_at (key_cmp q)) es
found q [] = refl
found q (e ∷ es) = ap (cond (eq_by_cmp key_cmp q e.0) (Some e.1)) (found q es)

pub read_entries : (es : List (NoteKey × Note)) (q : NoteKey) →
    map.get (map.from_entries {R = key_cmp} es) q ≡ lookup (is_at (key_cmp q)) es
read_entries es q = map.get-from_entries key_total es q ∙ found q es

-- two maps that answer alike for each key
pub same_notes : (m n : NoteMap) → ((q : NoteKey) → map.get m q ≡ map.get n q) → m ≡ n
same_notes m n alike = map.same_map key_total key_exact m n alike

pub with_note_at : (notes : NoteMap) (id : TokenId) (note : Note) (other : TokenId) →
    note_at (with_note notes id note) other ≡ cond (same_id id other) (Some note) (note_at notes other)
with_note_at notes id note other = map.get-insert key_total notes (key_of id) note (key_of other)
    ∙ ap (λ b. cond b (Some note) (note_at notes other)) (same_key other id)

pub without_note_at : (notes : NoteMap) (id other : TokenId) →
    note_at (without_note notes id) other ≡ cond (same_id id other) None (note_at notes other)
without_note_at notes id other = map.get-remove key_total notes (key_of id) (key_of other)
    ∙ ap (λ b. cond b None (note_at notes other)) (same_key other id)

abbrev id_of : NoteKey → TokenId
id_of q = record { server = record { 0 = q.0 }; epoch = q.1.0; seq = q.1.1 }

pub same_at : (m n : NoteMap) → ((id : TokenId) → note_at m id ≡ note_at n id) → m ≡ n
same_at m n alike = same_notes m n (λ q. alike (id_of q))

conds : {X : Type 0} (a b : Bool) (x y : X) → cond b x (cond a x y) ≡ cond (a || b) x y
conds true true x y = refl
conds true false x y = refl
conds false true x y = refl
conds false false x y = refl

pub with_each_at : (notes : NoteMap) (tokens : List Token) (note : Note) (id : TokenId) →
    note_at (with_each notes tokens note) id ≡ cond (has_id tokens id) (Some note) (note_at notes id)
with_each_at notes [] note id = refl
with_each_at notes (token ∷ tokens) note id =
    with_each_at (with_note notes token.id note) tokens note id
    ∙ ap (cond (has_id tokens id) (Some note)) (with_note_at notes token.id note id)
    ∙ conds (same_id token.id id) (has_id tokens id) (Some note) (note_at notes id)

pub without_each_at : (notes : NoteMap) (tokens : List Token) (id : TokenId) →
    note_at (without_each notes tokens) id ≡ cond (has_id tokens id) None (note_at notes id)
without_each_at notes [] id = refl
without_each_at notes (token ∷ tokens) id =
    without_each_at (without_note notes token.id) tokens id
    ∙ ap (cond (has_id tokens id) None) (without_note_at notes token.id id)
    ∙ conds (same_id token.id id) (has_id tokens id) None (note_at notes id)

-- nothing is noted of numbers of which nothing was
none_there : (notes : NoteMap) (tokens : List Token) (id : TokenId) → has_id tokens id ≡ true →
    All (λ token. note_at notes token.id ≡ None) tokens → note_at notes id ≡ None
none_there notes [] id has all = absurd (false≢true has)
none_there notes (token ∷ tokens) id has all = elim (cases_Bool (same_id token.id id)) [
  | inl same ↦ ap (note_at notes) (sym (one_id token.id id same))
      ∙ All-head (λ token. note_at notes token.id ≡ None) token tokens all
  | inr other ↦ none_there notes tokens id (let h = has in rw other at h)
      (All-tail (λ token. note_at notes token.id ≡ None) token tokens all)
]

taken_off : (b : Bool) (note : Note) (o : Option Note) → (b ≡ true → o ≡ None) →
    cond b None (cond b (Some note) o) ≡ o
taken_off true note o none = sym (none refl)
taken_off false note o none = refl

-- what was noted of each of some tokens and is forgotten again leaves what was before
pub undone : (notes : NoteMap) (tokens : List Token) (note : Note) →
    All (λ token. note_at notes token.id ≡ None) tokens → without_each (with_each notes tokens note) tokens ≡ notes
undone notes tokens note fresh = same_at (without_each (with_each notes tokens note) tokens) notes (λ id.
    without_each_at (with_each notes tokens note) tokens id
    ∙ ap (cond (has_id tokens id) None) (with_each_at notes tokens note id)
    ∙ taken_off (has_id tokens id) note (note_at notes id) (λ has. none_there notes tokens id has fresh))

-- one more token behind the others
pub with_each_push : (notes : NoteMap) (tokens : List Token) (token : Token) (note : Note) →
    with_each notes (tokens ++ token ∷ []) note ≡ with_note (with_each notes tokens note) token.id note
with_each_push notes [] token note = refl
with_each_push notes (x ∷ xs) token note = with_each_push (with_note notes x.id note) xs token note

pub without_each_push : (notes : NoteMap) (tokens : List Token) (token : Token) →
    without_each notes (tokens ++ token ∷ []) ≡ without_note (without_each notes tokens) token.id
without_each_push notes [] token = refl
without_each_push notes (x ∷ xs) token = without_each_push (without_note notes x.id) xs token

-- a change of what is noted of one token
pub put_if_at : (notes : NoteMap) (id : TokenId) (change : Note → Note) (other : TokenId) →
    note_at (put_if notes id change (note_at notes id)) other
    ≡ cond (same_id id other) (option_map change (note_at notes other)) (note_at notes other)
put_if_at notes id change other = go (note_at notes id) refl
  where
    there : (o : Option Note) → note_at notes id ≡ o → same_id id other ≡ true → note_at notes other ≡ o
    there o is same = ap (note_at notes) (sym (one_id id other same)) ∙ is

    go : (o : Option Note) → note_at notes id ≡ o →
        note_at (put_if notes id change o) other
        ≡ cond (same_id id other) (option_map change (note_at notes other)) (note_at notes other)
    go None is = elim (cases_Bool (same_id id other)) [
      | inl same ↦ rw (same, there None is same) refl
      | inr apart ↦ rw apart refl
    ]
    go (Some note) is = with_note_at notes id (change note) other ∙ elim (cases_Bool (same_id id other)) [
      | inl same ↦ rw (same, there (Some note) is same) refl
      | inr apart ↦ rw apart refl
    ]

turned : {X : Type 0} (b : Bool) (x y : X) → cond (not b) x y ≡ cond b y x
turned true x y = refl
turned false x y = refl

-- without the notes of a host
pub without_notes_key : (notes : NoteMap) (host : HostId) (q : NoteKey) →
    map.get (without_notes_of notes host) q ≡ cond (is_note_of host (map.get notes q)) None (map.get notes q)
without_notes_key notes host q =
    map.get-retain_keys notes (λ key. not (is_note_of host (map.get notes key))) q
    (λ x tie. ap (λ key. not (is_note_of host (map.get notes key))) (sym (key_exact q x tie)))
    ∙ turned (is_note_of host (map.get notes q)) (map.get notes q) None

pub without_notes_at : (notes : NoteMap) (host : HostId) (id : TokenId) →
    note_at (without_notes_of notes host) id
    ≡ cond (is_note_of host (note_at notes id)) None (note_at notes id)
without_notes_at notes host id = without_notes_key notes host (key_of id)

-- the maps of the code and of contracts
module _ (old new : BTreeMap NoteKey Note) (now : NoteMap) (is : map.from_entries old.entries ≡ now) where
  pub read_old : (q : NoteKey) → get key_cmp old q ≡ map.get now q
  read_old q = sym (read_entries old.entries q) ∙ ap (λ m. map.get m q) is

  put_entry : (key : NoteKey) (o : Option Note) →
      ((q : NoteKey) → get key_cmp new q ≡ cond (is_at (key_cmp key) q) o (get key_cmp old q)) → (q : NoteKey) →
      map.get (map.from_entries {R = key_cmp} new.entries) q ≡ cond (eq_by_cmp key_cmp q key) o (map.get now q)
  put_entry key o updates q =
      read_entries new.entries q ∙ updates q
      ∙ (λ i. cond ((eq_by_cmp_equiv key_total).symm key q i) o (read_old q i))

  pub inserted : (id : TokenId) (note : Note) →
      ((q : NoteKey) → get key_cmp new q ≡ cond (is_at (key_cmp (key_of id)) q) (Some note) (get key_cmp old q)) →
      map.from_entries {R = key_cmp} new.entries ≡ with_note now id note
  inserted id note updates = same_notes (map.from_entries {R = key_cmp} new.entries) (with_note now id note) (λ q.
      put_entry (key_of id) (Some note) updates q ∙ sym (map.get-insert key_total now (key_of id) note q))

  pub removed : (id : TokenId) →
      ((q : NoteKey) → get key_cmp new q ≡ cond (is_at (key_cmp (key_of id)) q) None (get key_cmp old q)) →
      map.from_entries {R = key_cmp} new.entries ≡ without_note now id
  removed id updates = same_notes (map.from_entries {R = key_cmp} new.entries) (without_note now id) (λ q.
      put_entry (key_of id) None updates q ∙ sym (map.get-remove key_total now (key_of id) q))

-- a key that isn't there
none_kept : (p : Note → Bool) (key : NoteKey) (es : List (NoteKey × Note)) →
    AllByRecursion (λ k. eq_by_cmp key_cmp key k ≡ false) (keys_of es) →
    lookup (is_at (key_cmp key)) (filter (λ e. p e.1) es) ≡ None
none_kept p key [] apart = refl
none_kept p key (e ∷ es) apart = elim (cases_Bool (p e.1)) [
  | inl stays ↦ rw (stays, apart.0) (none_kept p key es apart.1)
  | inr goes ↦ rw goes (none_kept p key es apart.1)
]

-- what a filter of the values leaves at a key
kept_at : (host : HostId) (q : NoteKey) (es : List (NoteKey × Note)) → IsDistinct (eq_by_cmp key_cmp) (keys_of es) →
    lookup (is_at (key_cmp q)) (filter (λ e. not (e.1.host.0 == host.0)) es)
    ≡ cond (is_note_of host (lookup (is_at (key_cmp q)) es)) None (lookup (is_at (key_cmp q)) es)
kept_at host q [] apart = refl
kept_at host q (e ∷ es) apart =
    let ks = keys_of es in
    let rest = kept_at host q es (IsDistinct-tail (eq_by_cmp key_cmp) e.0 ks apart) in
    elim (cases_Bool (is_at (key_cmp q) e.0)) [
      | inl here ↦ elim (cases_Bool (e.1.host.0 == host.0)) [
        | inl mine ↦
            let one : q ≡ e.0 = key_exact q e.0 (is_equal (key_cmp q e.0) here) in
            rw (here, mine) (ap (λ k. lookup (is_at (key_cmp k)) (filter (λ x. not (x.1.host.0 == host.0)) es)) one
            ∙ none_kept (λ note. not (note.host.0 == host.0)) e.0 es
            (IsDistinct-head (eq_by_cmp key_cmp) e.0 ks apart))
        | inr other ↦ rw (here, other, here) refl
      ]
      | inr there ↦ elim (cases_Bool (e.1.host.0 == host.0)) [
        | inl mine ↦ rw (there, mine) rest
        | inr other ↦ rw (there, other, there) rest
      ]
    ]
  where
    is_equal : (o : Ordering) → is_eq o ≡ true → o ≡ Equal
    is_equal Less h = absurd (false≢true h)
    is_equal Equal h = refl
    is_equal Greater h = absurd (false≢true h)

-- the notes of a host go
pub host_dropped : (old new : BTreeMap NoteKey Note) (now : NoteMap) (host : HostId) →
    map.from_entries old.entries ≡ now → IsStrictlySortedBy key_cmp (keys_of old.entries) →
    new.entries ≡ filter (λ e. not (e.1.host.0 == host.0)) old.entries →
    map.from_entries {R = key_cmp} new.entries ≡ without_notes_of now host
host_dropped old new now host is sorted left =
    same_notes (map.from_entries {R = key_cmp} new.entries) (without_notes_of now host) (λ q.
    read_entries new.entries q ∙ ap (lookup (is_at (key_cmp q))) left
    ∙ kept_at host q old.entries (IsDistinct-from_sorted key_cmp (keys_of old.entries) sorted)
    ∙ ap (λ o. cond (is_note_of host o) None o) (read_old old new now is q)
    ∙ sym (without_notes_key now host q))

-- the one of two cases that there is
pub only_ok : {A E P Q : Type 0} (r : Result A E) → OnOk r P → OnErr r Q → (Q → ⊥) → P
only_ok (Ok a) p q never = p
only_ok (Err e) p q never = absurd (never q)

pub not_none : (o : Option Note) → IsSome o → o ≡ None → ⊥
not_none None h e = false≢true h
not_none (Some note) h e = false≢true (sym (ap is_some e))
