-- Where names lead.
use Rattle.std.proofs.Common.{◌≡◌, ℕ, zero, suc, ◌+◌, ◌≤◌, ◌<◌, nat_lt, Bool, true, false, ◌||◌, not, cond, List, [], ◌∷◌, length, get_or, Option, Some, None, Ok, refl, sym, ap, ◌∙◌, arith, rules}
use Rattle.std.specs.Prelude.{slice_get}
use Rattle.std.specs.List.{find, list_any, position, prefix_len}
use Rattle.std.proofs.lemmas.Grind.{common_steps}
use Rattle.base_types.specs.declared.ids.FilesetId.{FilesetId}
use Rattle.base_types.specs.declared.ids.ServerId.{ServerId}
use Rattle.tree_calls.specs.declared.reply.Refusal.TheVariants.{NoFileset}
use Rattle.tree_filesets.specs.declared.fileset.Fileset.{Fileset}
use Rattle.tree_answers.specs.declared.tree.Tree.{Tree}
use Rattle.tree_answers.specs.Away.{away_id}
use Rattle.tree_answers.specs.Finding.{is_named, has_this_id, leads_to, found_or, fileset_named}
use Rattle.tree_answers.proofs.Places.{place_found}

-- none passes a test exactly where the front that fails it is all
none_prefix : {X : Type 0} (p : X → Bool) (xs : List X) → list_any p xs ≡ false → prefix_len (λ x. not (p x)) xs ≡ length xs
none_prefix p [] h = refl
none_prefix p (x ∷ xs) h = by_test (p x) h (λ k. none_prefix p xs k)
  where
    by_test : (b : Bool) → (b || list_any p xs) ≡ false → (list_any p xs ≡ false → prefix_len (λ x. not (p x)) xs ≡ length xs) → cond (not b) (1 + prefix_len (λ x. not (p x)) xs) 0 ≡ suc (length xs)
    by_test true k rest = absurd (search (rules, k))
    by_test false k rest = let same = rest k in omega (arith, same)

prefix_none : {X : Type 0} (p : X → Bool) (xs : List X) → length xs ≤ prefix_len (λ x. not (p x)) xs → list_any p xs ≡ false
prefix_none p [] = λ h. refl
prefix_none p (x ∷ xs) =
    elim (p x) as (λ t. suc (length xs) ≤ cond (not t) (1 + prefix_len (λ x. not (p x)) xs) 0 → (t || list_any p xs) ≡ false)
    [ true ↦ λ h. absurd (omega (arith, h)) | false ↦ λ h. prefix_none p xs (omega (arith, h)) ]

-- nothing has a position where none passes
none_position : {X : Type 0} (p : X → Bool) (xs : List X) → list_any p xs ≡ false → position p xs ≡ None
none_position p xs h =
    let all = none_prefix p xs h in
    let off : nat_lt (prefix_len (λ x. not (p x)) xs) (length xs) ≡ false = grind (arith, common_steps, all) in
    ap (λ t. cond t (Some (prefix_len (λ x. not (p x)) xs)) None) off

some_position : {X : Type 0} (p : X → Bool) (xs : List X) (i : ℕ) → position p xs ≡ Some i → list_any p xs ≡ true
some_position p xs i h = by_test (list_any p xs) refl
  where
    by_test : (b : Bool) → list_any p xs ≡ b → b ≡ true
    by_test true e = refl
    by_test false e = let wrong : None ≡ Some i = sym (none_position p xs e) ∙ h in absurd (search (rules, wrong))

no_position : {X : Type 0} (p : X → Bool) (xs : List X) → position p xs ≡ None → list_any p xs ≡ false
no_position p xs h = by_test (nat_lt (prefix_len (λ x. not (p x)) xs) (length xs)) refl h
  where
    by_test : (b : Bool) → nat_lt (prefix_len (λ x. not (p x)) xs) (length xs) ≡ b → cond b (Some (prefix_len (λ x. not (p x)) xs)) None ≡ None → list_any p xs ≡ false
    by_test true e k = absurd (search (rules, k))
    by_test false e k = let all : length xs ≤ prefix_len (λ x. not (p x)) xs = grind (arith, common_steps, e) in prefix_none p xs all

-- what stands at the position is what is found
pub position_found : {X : Type 0} (p : X → Bool) (xs : List X) (i : ℕ) → position p xs ≡ Some i → find p xs ≡ slice_get xs i
position_found p xs i h = by_test (nat_lt (prefix_len (λ x. not (p x)) xs) (length xs)) h
  where
    by_test : (b : Bool) → cond b (Some (prefix_len (λ x. not (p x)) xs)) None ≡ Some i → find p xs ≡ slice_get xs i
    by_test true k = let same : prefix_len (λ x. not (p x)) xs ≡ i = cc in place_found p xs ∙ ap (λ n. slice_get xs n) same
    by_test false k = absurd (search (rules, k))

none_found : {X : Type 0} (p : X → Bool) (xs : List X) → list_any p xs ≡ false → find p xs ≡ None
none_found p [] h = refl
none_found p (x ∷ xs) h = by_test (p x) h (λ k. none_found p xs k)
  where
    by_test : (b : Bool) → (b || list_any p xs) ≡ false → (list_any p xs ≡ false → find p xs ≡ None) → cond b (Some x) (find p xs) ≡ None
    by_test true k rest = absurd (search (rules, k))
    by_test false k rest = rest k

-- the fileset of the name at the server
pub led_here : (tree : Tree) (server : ServerId) (name : List ℕ) (place : ℕ) → position (is_named server name) tree.filesets ≡ Some place → position (leads_to tree server name) tree.filesets ≡ Some place
led_here tree server name place h =
    ap (λ t. position (cond t (is_named server name) (has_this_id (away_id tree.away server name))) tree.filesets) (some_position (is_named server name) tree.filesets place h) ∙ h

-- or that of the server's record
pub led_away : (tree : Tree) (server : ServerId) (name : List ℕ) (id : Option FilesetId) → position (is_named server name) tree.filesets ≡ None → away_id tree.away server name ≡ id →
    position (leads_to tree server name) tree.filesets ≡ position (has_this_id id) tree.filesets
led_away tree server name id h e =
    ap (λ t. position (cond t (is_named server name) (has_this_id (away_id tree.away server name))) tree.filesets) (no_position (is_named server name) tree.filesets h)
    ∙ ap (λ i. position (has_this_id i) tree.filesets) e

never : (filesets : List Fileset) → list_any (has_this_id None) filesets ≡ false
never [] = refl
never (x ∷ xs) = never xs

pub led_nowhere : (filesets : List Fileset) → position (has_this_id None) filesets ≡ None
led_nowhere filesets = none_position (has_this_id None) filesets (never filesets)

-- the fileset there
pub get_there : {X : Type 0} (xs : List X) (i : ℕ) (x : X) → i < length xs → x ≡ get_or xs i x → slice_get xs i ≡ Some x
get_there [] i x h e = absurd (omega (arith, h))
get_there (y ∷ ys) zero x h e = ap Some (sym e)
get_there (y ∷ ys) (suc i) x h e = get_there ys i x (omega (arith, h)) e

pub named_at : (tree : Tree) (server : ServerId) (name : List ℕ) (place : ℕ) (fileset : Fileset) → position (leads_to tree server name) tree.filesets ≡ Some place → place < length tree.filesets → fileset ≡ get_or tree.filesets place fileset →
    fileset_named tree server name ≡ Ok fileset
unfolding fileset_named
named_at tree server name place fileset h k e =
    ap (λ o. found_or o NoFileset) (position_found (leads_to tree server name) tree.filesets place h ∙ get_there tree.filesets place fileset k e)

pub named_nowhere : (tree : Tree) (server : ServerId) (name : List ℕ) → position (leads_to tree server name) tree.filesets ≡ None → find (leads_to tree server name) tree.filesets ≡ None
named_nowhere tree server name h = none_found (leads_to tree server name) tree.filesets (no_position (leads_to tree server name) tree.filesets h)
