-- What stays of an anode while others, or its own content, change.
use Rattle.std.proofs.Common.{◌≡◌, ◌≤◌, ℕ, ◌+◌, List, [], ◌∷◌, length, get_or, refl, sym, ◌∙◌, arith}
use Rattle.std.specs.Prelude.{Bool, true, false, ◌&&◌, nat_lt, Option, Some, None, is_none}
use Rattle.std.specs.Option.{option_map, option_map_or}
use Rattle.base_types.specs.declared.access.AccessEntry.{AccessEntry}
use Rattle.base_types.specs.declared.limits.TheConstants.{UNIQUE_MAX}
use Rattle.tree_calls.specs.declared.part.DirEntry.{DirEntry}
use Rattle.tree_calls.specs.declared.place.Which.{Which}
use Rattle.tree_calls.specs.declared.place.Which.TheVariants.{Own, Files, Dirs}
use Rattle.tree_objects.specs.declared.content.Anode.{Anode}
use Rattle.tree_objects.specs.declared.content.Content.{Content}
use Rattle.tree_objects.specs.declared.content.Content.TheVariants.{Dir, File}
use Rattle.tree_objects.specs.declared.content.Object.{Object}
use Rattle.tree_objects.specs.declared.content.Unsaved.{Unsaved}
use Rattle.tree_objects.specs.declared.content.UnsavedLength.{UnsavedLength}
use Rattle.tree_objects.specs.Changes.{content_changed, anode_changed}
use Rattle.tree_objects.specs.Entries.{content_with_entry}
use Rattle.tree_objects.specs.Objects.{is_dir, list_index, content_with_list}
use Rattle.tree_filesets.specs.Creation.{is_vacant}
use Rattle.tree_filesets.specs.Laws.{lists_in}
use Rattle.disk_objects.specs.Objects.{anode_at, with_anode}
use Rattle.disk_fileset.specs.Slots.{has_list, HasList, IsDir, TakesObject, IsBlank, blank_content, is_new, is_listed, emptied, used_by}
use Rattle.tree_filesets.specs.Creation.{occupied}
use Rattle.std.proofs.Common.{length-set}
use Rattle.disk_fileset.proofs.Twice.{anode_twice, anode_where, anode_here, anode_keeps}

-- a directory stays one
entry_dir : (entry : DirEntry) (content : Content) → is_dir content ≡ true → is_dir (content_with_entry entry content) ≡ true
entry_dir entry (Dir entries lists) is = refl
entry_dir entry (File list kept unsaved len) is = is

dir_stays : (change : Content → Content) → ((content : Content) → is_dir content ≡ true → is_dir (change content) ≡ true) → (anode : Anode)
    → option_map_or (λ (object : Object). is_dir object.content) anode.object false ≡ true → option_map_or (λ (object : Object). is_dir object.content) (anode_changed change anode).object false ≡ true
dir_stays change keeps anode is = by anode.object is
  where
    by : (o : Option Object) → option_map_or (λ (object : Object). is_dir object.content) o false ≡ true → option_map_or (λ (object : Object). is_dir object.content) (option_map (content_changed change) o) false ≡ true
    by None is = is
    by (Some object) is = keeps object.content is

pub dir_after : (slots : ℕ → List Anode) (slot n m : ℕ) (entry : DirEntry) → 1 ≤ n → 1 ≤ m → IsDir slot m slots → IsDir slot m (with_anode slot n (anode_changed (content_with_entry entry)) slots)
dir_after slots slot n m entry some one is =
    anode_keeps (λ (a : Anode). option_map_or (λ (object : Object). is_dir object.content) a.object false ≡ true) slots slot n m (anode_changed (content_with_entry entry)) some one
    (λ a fact. dir_stays (content_with_entry entry) (entry_dir entry) a fact) is

-- a free anode stays free where the content of others changes
vacant_stays : (change : Content → Content) (anode : Anode) → is_vacant anode ≡ true → is_vacant (anode_changed change anode) ≡ true
vacant_stays change anode is = by anode.object is
  where
    by : (o : Option Object) → (is_none o && nat_lt anode.unique UNIQUE_MAX) ≡ true → (is_none (option_map (content_changed change) o) && nat_lt anode.unique UNIQUE_MAX) ≡ true
    by None is = is
    by (Some object) is = is

pub takes_after : (slots : ℕ → List Anode) (slot n m : ℕ) (change : Content → Content) → 1 ≤ n → 1 ≤ m → TakesObject slot m slots → TakesObject slot m (with_anode slot n (anode_changed change) slots)
takes_after slots slot n m change some one is =
    anode_keeps (λ (a : Anode). is_vacant a ≡ true) slots slot n m (anode_changed change) some one (λ a fact. vacant_stays change a fact) is

pub unique_after : (slots : ℕ → List Anode) (slot n m k : ℕ) (change : Content → Content) → 1 ≤ n → 1 ≤ m → (anode_at (slots slot) m).unique ≡ k → (anode_at (with_anode slot n (anode_changed change) slots slot) m).unique ≡ k
unique_after slots slot n m k change some one is =
    anode_keeps (λ (a : Anode). a.unique ≡ k) slots slot n m (anode_changed change) some one (λ a fact. fact) is

-- an anode that is being made has its lists
blank_has : (which : Which) (o : Option Object) → option_map (λ (object : Object). object.content) o ≡ Some (blank_content true)
    → option_map_or (λ (object : Object). nat_lt (list_index which) (length (lists_in object.content))) o false ≡ true
blank_has which o is = at which
  where
    through : (o : Option Object) → option_map_or (λ (object : Object). nat_lt (list_index which) (length (lists_in object.content))) o false
        ≡ option_map_or (λ (content : Content). nat_lt (list_index which) (length (lists_in content))) (option_map (λ (object : Object). object.content) o) false
    through None = refl
    through (Some object) = refl

    known : (which : Which) → nat_lt (list_index which) 3 ≡ true
    known Own = refl
    known Files = refl
    known Dirs = refl

    at : (which_2 : Which) → option_map_or (λ (object : Object). nat_lt (list_index which) (length (lists_in object.content))) o false ≡ true
    at which_2 = through o ∙ (λ i. option_map_or (λ (content : Content). nat_lt (list_index which) (length (lists_in content))) (is i) false) ∙ known which

pub blank_list : (slots : ℕ → List Anode) (slot n : ℕ) (which : Which) → IsBlank slot n true slots → HasList slot n which slots
blank_list slots slot n which is = blank_has which (anode_at (slots slot) n).object is

-- and keeps them
same_lists : (which : Which) (list : List AccessEntry) (content : Content) → length (lists_in (content_with_list which list content)) ≡ length (lists_in content)
same_lists which list (Dir entries lists) = length-set lists (list_index which) list
same_lists which list (File old kept unsaved len) = refl

list_stays : (which other : Which) (list : List AccessEntry) (anode : Anode) → has_list which anode ≡ true → has_list which (anode_changed (content_with_list other list) anode) ≡ true
list_stays which other list anode is = by anode.object is
  where
    by : (o : Option Object) → option_map_or (λ (object : Object). nat_lt (list_index which) (length (lists_in object.content))) o false ≡ true
        → option_map_or (λ (object : Object). nat_lt (list_index which) (length (lists_in object.content))) (option_map (content_changed (content_with_list other list)) o) false ≡ true
    by None is = is
    by (Some object) is = (λ i. nat_lt (list_index which) (same_lists other list object.content i)) ∙ is

pub list_after : (slots : ℕ → List Anode) (slot n : ℕ) (which other : Which) (list : List AccessEntry) → 1 ≤ n → HasList slot n which slots
    → HasList slot n which (with_anode slot n (anode_changed (content_with_list other list)) slots)
list_after slots slot n which other list some is =
    anode_keeps (λ (a : Anode). has_list which a ≡ true) slots slot n n (anode_changed (content_with_list other list)) some some (λ a fact. list_stays which other list a fact) is

-- three lists that were saved
pub three_are : (xs : List (List AccessEntry)) (a b c : List AccessEntry) → length xs ≡ 3 → a ≡ get_or xs 0 a → b ≡ get_or xs 1 b → c ≡ get_or xs 2 c → xs ≡ a ∷ b ∷ c ∷ []
three_are [] a b c size e f g = absurd (omega (arith, size))
three_are (x ∷ []) a b c size e f g = absurd (omega (arith, size))
three_are (x ∷ y ∷ []) a b c size e f g = absurd (omega (arith, size))
three_are (x ∷ y ∷ z ∷ []) a b c size e f g = λ i. sym e i ∷ sym f i ∷ sym g i ∷ []
three_are (x ∷ y ∷ z ∷ w ∷ xs) a b c size e f g = absurd (omega (arith, size))

three_set : (anode : Anode) (a b c : List AccessEntry) (lists : List (List AccessEntry)) → option_map (λ (object : Object). object.content) anode.object ≡ Some (blank_content true) → lists ≡ a ∷ b ∷ c ∷ []
    → anode_changed (content_with_list Dirs c) (anode_changed (content_with_list Files b) (anode_changed (content_with_list Own a) anode)) ≡ anode_changed (λ content. Dir [] lists) anode
three_set anode a b c lists is are = by anode.object is
  where
    by : (o : Option Object) → option_map (λ (object : Object). object.content) o ≡ Some (blank_content true)
        → anode_changed (content_with_list Dirs c) (anode_changed (content_with_list Files b) (anode_changed (content_with_list Own a) (record { unique = anode.unique; object = o })))
        ≡ anode_changed (λ content. Dir [] lists) (record { unique = anode.unique; object = o })
    by None is = refl
    by (Some object) is =
        let same : object.content ≡ blank_content true = cc in
        λ i. record {
          unique = anode.unique;
          object = Some (record {
            owner = object.owner;
            group = object.group;
            content = ((λ j. content_with_list Dirs c (content_with_list Files b (content_with_list Own a (same j)))) ∙ (λ j. Dir [] (sym are j))) i;
          });
        }

pub three_turn : (slots : ℕ → List Anode) (slot n : ℕ) (a b c : List AccessEntry) (lists : List (List AccessEntry)) → IsBlank slot n true slots → lists ≡ a ∷ b ∷ c ∷ []
    → with_anode slot n (anode_changed (content_with_list Dirs c)) (with_anode slot n (anode_changed (content_with_list Files b)) (with_anode slot n (anode_changed (content_with_list Own a)) slots))
    ≡ with_anode slot n (anode_changed (λ content. Dir [] lists)) slots
three_turn slots slot n a b c lists is are =
    (λ i. with_anode slot n (anode_changed (content_with_list Dirs c)) (anode_twice slots slot n (anode_changed (content_with_list Files b)) (anode_changed (content_with_list Own a)) i))
    ∙ anode_twice slots slot n (anode_changed (content_with_list Dirs c)) (λ x. anode_changed (content_with_list Files b) (anode_changed (content_with_list Own a) x))
    ∙ anode_where slots slot n (λ x. anode_changed (content_with_list Dirs c) (anode_changed (content_with_list Files b) (anode_changed (content_with_list Own a) x))) (anode_changed (λ content. Dir [] lists))
    (three_set (anode_at (slots slot) n) a b c lists is are)

-- an anode that was begun
pub blank_made : (slots : ℕ → List Anode) (slot n : ℕ) (dir other : Bool) (owner group : List ℕ) → 1 ≤ n → n ≤ length (slots slot) → dir ≡ other
    → IsBlank slot n other (with_anode slot n (used_by (record { owner = owner; group = group; content = blank_content dir })) slots)
blank_made slots slot n dir other owner group some there same =
    (λ i. option_map (λ (object : Object). object.content) (anode_here slots slot n (used_by (record { owner = owner; group = group; content = blank_content dir })) some there i).object)
    ∙ (λ i. Some (blank_content (same i)))

-- one that has its object, as its entry says
pub used_turn : (slots : ℕ → List Anode) (slot n unique : ℕ) (object : Object) → (anode_at (slots slot) n).unique + 1 ≡ unique → with_anode slot n (used_by object) slots ≡ with_anode slot n (occupied unique object) slots
used_turn slots slot n unique object is = anode_where slots slot n (used_by object) (occupied unique object) (λ i. occupied (is i) object (anode_at (slots slot) n))

-- what is new is empty, and has its lists
pub new_emptied : (content : Content) → is_new content ≡ true → emptied content ≡ content
new_emptied (Dir [] lists) is = refl
new_emptied (Dir (entry ∷ entries) lists) is = absurd (grind (arith, is))
new_emptied (File list [] [] None) is = refl
new_emptied (File list [] [] (Some length)) is = absurd (grind (arith, is))
new_emptied (File list [] (byte ∷ unsaved) len) is = absurd (grind (arith, is))
new_emptied (File list (byte ∷ kept) unsaved len) is = absurd (grind (arith, is))

pub new_listed : (content : Content) → is_new content ≡ true → is_listed content ≡ true
new_listed (Dir [] lists) is = is
new_listed (Dir (entry ∷ entries) lists) is = absurd (grind (arith, is))
new_listed (File list kept unsaved len) is = refl

pub blank_file : (slots : ℕ → List Anode) (slot n : ℕ) (content : Content) (list : List AccessEntry) (kept : List ℕ) (unsaved : List Unsaved) (len : Option UnsavedLength) → content ≡ File list kept unsaved len
    → IsBlank slot n (is_dir content) slots → option_map (λ (object : Object). object.content) (anode_at (slots slot) n).object ≡ Some (File [] [] [] None)
blank_file slots slot n content list kept unsaved len at is = is ∙ (λ i. Some (blank_content (is_dir (at i))))

pub file_has : (slots : ℕ → List Anode) (slot n : ℕ) → option_map (λ (object : Object). object.content) (anode_at (slots slot) n).object ≡ Some (File [] [] [] None) → HasList slot n Own slots
file_has slots slot n is = by (anode_at (slots slot) n).object is
  where
    by : (o : Option Object) → option_map (λ (object : Object). object.content) o ≡ Some (File [] [] [] None)
        → option_map_or (λ (object : Object). nat_lt (list_index Own) (length (lists_in object.content))) o false ≡ true
    by None is = absurd (cc)
    by (Some object) is = (let same : object.content ≡ File [] [] [] None = cc in λ i. nat_lt (list_index Own) (length (lists_in (same i))))

pub file_turn : (slots : ℕ → List Anode) (slot n : ℕ) (content : Content) (list : List AccessEntry) (kept : List ℕ) (unsaved : List Unsaved) (len : Option UnsavedLength) → content ≡ File list kept unsaved len
    → IsBlank slot n (is_dir content) slots
    → with_anode slot n (anode_changed (content_with_list Own list)) slots ≡ with_anode slot n (anode_changed (λ blank. emptied content)) slots
file_turn slots slot n content list kept unsaved len at is =
    anode_where slots slot n (anode_changed (content_with_list Own list)) (anode_changed (λ blank. emptied content))
    (by (anode_at (slots slot) n).object (blank_file slots slot n content list kept unsaved len at is) (λ i. emptied (sym at i)))
  where
    by : (o : Option Object) → option_map (λ (object : Object). object.content) o ≡ Some (File [] [] [] None) → File list [] [] None ≡ emptied content
        → anode_changed (content_with_list Own list) (record { unique = (anode_at (slots slot) n).unique; object = o }) ≡ anode_changed (λ blank. emptied content) (record { unique = (anode_at (slots slot) n).unique; object = o })
    by None is whole = refl
    by (Some object) is whole =
        let same : object.content ≡ File [] [] [] None = cc in
        λ i. record {
          unique = (anode_at (slots slot) n).unique;
          object = Some (record { owner = object.owner; group = object.group; content = ((λ j. content_with_list Own list (same j)) ∙ whole) i });
        }
