-- What is found of a fileset from its root, where it is well formed, and where it isn't.
use Rattle.std.proofs.Common.{◌≡◌, ◌≢◌, ◌<◌, ◌≤◌, ◌⊎◌, ℕ, suc, ◌+◌, ◌-◌, List, [], ◌∷◌, ◌++◌, length, take, drop, get_or, inl, inr, refl, sym, subst, ◌∙◌, ap, arith}
use Rattle.std.specs.Prelude.{Bool, true, false, ◌==◌, cond, nat_eq, nat_le, Option, Some, None, is_some, slice_get}
use Rattle.std.specs.List.{flat_map, list_all, list_any, IsDistinct}
use Rattle.std.specs.Option.{option_and_then, option_map_or}
use Rattle.std.specs.Ordering.{is_lt, is_eq, nat_cmp}
use Rattle.std.specs.declared.cmp.Ordering.{Ordering}
use Rattle.std.specs.declared.cmp.Ordering.TheVariants.{Less, Equal, Greater}
use Rattle.std.specs.Cmp.{nat_eq_equiv}
use Rattle.std.specs.Cmp.Lexicographic.{slice_cmp}
use Rattle.std.proofs.Math.Seq.{take-length}
use Rattle.std.proofs.lemmas.Bool.{and_parts, and_from, cond-true, cond-false, eqb-true, eq-eqb, false≢true}
use Rattle.std.proofs.lemmas.List.{append-nil, append_assoc, drop_more, flat_map_more, length-append, map_push, take-append-drop, take-append-le}
use Rattle.std.proofs.lemmas.Map.Keys.{IsDistinct-push, IsDistinct-tail}
use Rattle.std.proofs.lemmas.Map.Steps.{length-le_from_distinct_below}
use Rattle.std.proofs.lemmas.Map.Text.{is_eq-slice_cmp}
use Rattle.base_types.specs.Name.{is_before, same_name}
use Rattle.base_types.specs.declared.limits.TheConstants.{FILE_BYTES_MAX, OBJECTS_MAX}
use Rattle.tree_calls.specs.declared.part.DirEntry.{DirEntry}
use Rattle.tree_objects.specs.Entries.{entry_named}
use Rattle.tree_objects.specs.Sound.{is_sound, names_rise}
use Rattle.tree_objects.specs.declared.content.Anode.{Anode}
use Rattle.tree_objects.specs.declared.content.Content.{Content}
use Rattle.tree_objects.specs.declared.content.Content.TheVariants.{Dir, File}
use Rattle.tree_objects.specs.declared.content.Object.{Object}
use Rattle.tree_filesets.specs.Laws.{entries_in}
use Rattle.tree_filesets.specs.Walk.{object_at, unique_at}
use Rattle.tree_filesets.specs.WellFormed.{entry_at, entry_in, is_at_rest, is_settled, leads, IsUsed, IsWellFormed}
use Rattle.tree_filesets.specs.declared.fileset.Fileset.{Fileset}
use Rattle.tree_filesets.proofs.Found.{is_some_of, some_of}
use Rattle.tree_filesets.proofs.Leads.{leads_first, leads-append, some_then}
use Rattle.tree_filesets.proofs.Names.{names_equal, same_self}
use Rattle.tree_filesets.proofs.Observations.{object_from, object_not_zero}
use Rattle.message_types.specs.Soundness.{Each}
use Rattle.store_records.specs.Tree.{are_kept_sound, entries_at, has_root, is_kept_sound, targets, AreFound, AreWellFormed, IsLedTo, LeadAstray, LeadOn}
use Rattle.store_records.proofs.Members.{Has, any_has, before_apart, each_append, each_has, each_of, got_inside, has_any, has_either, has_flat, has_flattened, has_got, has_left, has_map, has_mapped, has_right, image_apart, one_more, first_apart, piece_apart, piece_distinct, take_got}

-- what all pass
pub all_has : {A : Type 0} (p : A → Bool) (x : A) (xs : List A) → list_all p xs ≡ true → Has x xs → p x ≡ true
all_has p x [] h k = absurd k
all_has p x (y ∷ xs) h (inl e) = ap p e ∙ (and_parts (p y) (list_all p xs) h).0
all_has p x (y ∷ xs) h (inr k) = all_has p x xs (and_parts (p y) (list_all p xs) h).1 k

-- a name that comes before another isn't the same
less_apart : (o : Ordering) → is_lt o ≡ true → is_eq o ≡ false
less_apart Less h = refl
less_apart Equal h = absurd (false≢true h)
less_apart Greater h = refl

names_apart : (a b : List ℕ) → is_before a b ≡ true → same_name a b ≡ false
names_apart a b h = sym (is_eq-slice_cmp a b) ∙ less_apart (slice_cmp nat_cmp a b) h

-- an entry is found by its name, and only by that
named_has : (entries : List DirEntry) (name : List ℕ) (entry : DirEntry) → entry_named entries name ≡ Some entry → Has entry entries × (entry.name ≡ name)
named_has [] name entry h = absurd (cc)
named_has (x ∷ xs) name entry h = by (same_name x.name name) refl h (λ k. named_has xs name entry k)
  where
    by : (b : Bool) → same_name x.name name ≡ b → cond b (Some x) (entry_named xs name) ≡ Some entry
        → (entry_named xs name ≡ Some entry → Has entry xs × (entry.name ≡ name)) → Has entry (x ∷ xs) × (entry.name ≡ name)
    by true is k rest = let same : entry ≡ x = cc in (inl same, ap (λ (e : DirEntry). e.name) same ∙ names_equal x.name name is)
    by false is k rest = let (there, named) = rest k in (inr there, named)

has_named : (entries : List DirEntry) (entry : DirEntry) → names_rise entries ≡ true → Has entry entries → entry_named entries entry.name ≡ Some entry
has_named [] entry rise h = absurd h
has_named (x ∷ xs) entry rise (inl e) =
    cond-true (same_name x.name entry.name) _ _ (ap (λ (y : DirEntry). same_name x.name y.name) e ∙ same_self x.name) ∙ ap Some (sym e)
has_named (x ∷ xs) entry rise (inr h) =
    let (first, rest) = and_parts (list_all (λ other. is_before x.name other.name) xs) (names_rise xs) rise in
    cond-false (same_name x.name entry.name) _ _ (names_apart x.name entry.name (all_has (λ (other : DirEntry). is_before x.name other.name) entry xs first h))
    ∙ has_named xs entry rest h

pub content_has : (content : Content) (name : List ℕ) (entry : DirEntry) → entry_in content name ≡ Some entry → Has entry (entries_in content) × (entry.name ≡ name)
content_has (Dir entries lists) name entry h = named_has entries name entry h
content_has (File list kept unsaved len) name entry h = absurd (cc)

has_content : (content : Content) (entry : DirEntry) → names_rise (entries_in content) ≡ true → Has entry (entries_in content) → entry_in content entry.name ≡ Some entry
has_content (Dir entries lists) entry rise h = has_named entries entry rise h
has_content (File list kept unsaved len) entry rise h = absurd h

abbrev listed : Option Object → List DirEntry
listed o = option_map_or (λ object. entries_in object.content) o []

some_has : (o : Option Object) (name : List ℕ) (entry : DirEntry) → option_and_then (λ object. entry_in object.content name) o ≡ Some entry → Has entry (listed o) × (entry.name ≡ name)
some_has None name entry h = absurd (cc)
some_has (Some object) name entry h = content_has object.content name entry h

has_some : (o : Option Object) (entry : DirEntry) → names_rise (listed o) ≡ true → Has entry (listed o) → option_and_then (λ object. entry_in object.content entry.name) o ≡ Some entry
has_some None entry rise h = absurd h
has_some (Some object) entry rise h = has_content object.content entry rise h

pub entry_has : (anodes : List Anode) (at : ℕ) (name : List ℕ) (entry : DirEntry) → entry_at anodes at name ≡ Some entry → Has entry (entries_at anodes at) × (entry.name ≡ name)
entry_has anodes at name entry h = some_has (object_at anodes at) name entry h

-- so for an object that is there
pub has_listed : (anodes : List Anode) (at : ℕ) (object : Object) (entry : DirEntry) → object_at anodes at ≡ Some object → names_rise (entries_at anodes at) ≡ true → Has entry (entries_in object.content)
    → entry_at anodes at entry.name ≡ Some entry
has_listed anodes at object entry there rise h = has_some (object_at anodes at) entry rise (subst (λ o. Has entry (listed o)) (sym there) h)

-- objects of anodes that are sound
pub object_low : (anodes : List Anode) (at : ℕ) (object : Object) → object_at anodes at ≡ Some object → at ≤ length anodes
object_low anodes at object h =
    let some = object_not_zero anodes at object h in
    let (anode, there, is) = some_then (slice_get anodes (at - 1)) (λ (a : Anode). a.object) object (sym (object_from anodes at some) ∙ h) in
    let low = got_inside anode anodes (at - 1) there in
    omega (arith, some, low)

pub object_passes : (p : Anode → Bool) (anodes : List Anode) (at : ℕ) (object : Object) → list_all p anodes ≡ true → object_at anodes at ≡ Some object → (anode : Anode) × (anode.object ≡ Some object) × (p anode ≡ true)
object_passes p anodes at object all h =
    let some = object_not_zero anodes at object h in
    let (anode, there, is) = some_then (slice_get anodes (at - 1)) (λ (a : Anode). a.object) object (sym (object_from anodes at some) ∙ h) in
    (anode, is, all_has p anode anodes all (has_got anode anodes (at - 1) there))

pub object_kept : (anodes : List Anode) (at : ℕ) (object : Object) → are_kept_sound anodes ≡ true → object_at anodes at ≡ Some object → is_kept_sound object.content ≡ true
object_kept anodes at object all h =
    let (anode, is, passes) = object_passes (λ (a : Anode). option_map_or (λ object. is_kept_sound object.content) a.object true) anodes at object all h in
    ap (λ o. option_map_or (λ (object : Object). is_kept_sound object.content) o true) (sym is) ∙ passes

object_settled : (fileset : Fileset) (at : ℕ) (object : Object) → is_at_rest fileset ≡ true → object_at fileset.anodes at ≡ Some object → is_settled object.content ≡ true
object_settled fileset at object rest h =
    let (anode, is, passes) = object_passes (λ (a : Anode). option_map_or (λ object. is_settled object.content) a.object true) fileset.anodes at object rest h in
    ap (λ o. option_map_or (λ (object : Object). is_settled object.content) o true) (sym is) ∙ passes

settled_sound : (content : Content) → is_settled content ≡ true → is_kept_sound content ≡ true → is_sound content ≡ true
settled_sound (Dir entries lists) r h = h
settled_sound (File list kept [] None) r h = and_from _ true (and_from _ true (and_from _ true (and_from _ _ h h) refl) refl) refl
settled_sound (File list kept [] (Some len)) r h = absurd (false≢true r)
settled_sound (File list kept (byte ∷ unsaved) len) r h = absurd (false≢true r)

pub sound_kept : (content : Content) → is_sound content ≡ true → is_kept_sound content ≡ true
sound_kept (Dir entries lists) h = h
sound_kept (File list kept unsaved len) h = (and_parts (nat_le (length kept) FILE_BYTES_MAX) _ (and_parts _ _ (and_parts _ _ (and_parts _ _ h).0).0).0).0

pub entries_rise : (anodes : List Anode) (at : ℕ) → are_kept_sound anodes ≡ true → names_rise (entries_at anodes at) ≡ true
entries_rise anodes at all = by (object_at anodes at) refl
  where
    rise : (content : Content) → is_kept_sound content ≡ true → names_rise (entries_in content) ≡ true
    rise (Dir entries lists) h = (and_parts (names_rise entries) _ h).0
    rise (File list kept unsaved len) h = refl

    by : (o : Option Object) → object_at anodes at ≡ o → names_rise (listed o) ≡ true
    by None is = refl
    by (Some object) is = rise object.content (object_kept anodes at object all is)

pub has_entry : (anodes : List Anode) (at : ℕ) (entry : DirEntry) → are_kept_sound anodes ≡ true → Has entry (entries_at anodes at) → entry_at anodes at entry.name ≡ Some entry
has_entry anodes at entry all h = has_some (object_at anodes at) entry (entries_rise anodes at all) h

-- entries lead on
pub on_none : (anodes : List Anode) (old : List ℕ) → LeadOn anodes [] old old
on_none anodes old = record { all = sym (append-nil old); used = tt; once = λ d. d }

pub on_more : (anodes : List Anode) (front : List DirEntry) (entry : DirEntry) (old mid : List ℕ) → LeadOn anodes front old mid → IsUsed anodes entry → list_any (nat_eq entry.anode) mid ≡ false
    → LeadOn anodes (front ++ entry ∷ []) old (mid ++ entry.anode ∷ [])
on_more anodes front entry old mid on used apart = record {
  all = ap (λ xs. xs ++ entry.anode ∷ []) on.all ∙ append_assoc old (targets front) (entry.anode ∷ []) ∙ ap (λ xs. old ++ xs) (sym (map_push (λ (e : DirEntry). e.anode) front entry));
  used = each_append (IsUsed anodes) front (entry ∷ []) on.used (used, tt);
  once = λ d. IsDistinct-push nat_eq_equiv mid entry.anode (on.once d) apart;
}

-- anodes that were found
pub found_first : (anodes : List Anode) → AreFound anodes 0 (1 ∷ [])
unfolding IsDistinct
found_first anodes = record { few = omega arith; all = refl; used = tt; once = (tt, tt); led = (([], refl), tt) }

pub found_next : (anodes : List Anode) (n at : ℕ) (found next : List ℕ) → are_kept_sound anodes ≡ true → AreFound anodes n found → slice_get found n ≡ Some at → LeadOn anodes (entries_at anodes at) found next → AreFound anodes (n + 1) next
found_next anodes n at found next sound old got on = record {
  few = (let size = ap length on.all ∙ length-append found (targets (entries_at anodes at)) in omega (arith, size, inside));
  all = on.all ∙ ap (λ xs. xs ++ targets (entries_at anodes at)) old.all ∙ flat_map_more (λ a. targets (entries_at anodes a)) (1 ∷ []) (take n found) at ∙ ap (λ xs. 1 ∷ flat_map (λ a. targets (entries_at anodes a)) xs) (sym more);
  used = subst (Each (λ a. Each (IsUsed anodes) (entries_at anodes a))) (sym more) (each_append (λ a. Each (IsUsed anodes) (entries_at anodes a)) (take n found) (at ∷ []) old.used (on.used, tt));
  once = on.once old.once;
  led = subst (Each (IsLedTo anodes)) (sym on.all) (each_append (IsLedTo anodes) found (targets (entries_at anodes at)) old.led (each_of (IsLedTo anodes) (targets (entries_at anodes at)) led));
}
  where
    inside : n < length found
    inside = got_inside at found n got

    more : take (n + 1) next ≡ take n found ++ at ∷ []
    more =
        (let e : n + 1 ≡ suc n = omega arith in ap (λ k. take k next) e)
        ∙ ap (take (suc n)) on.all
        ∙ take-append-le (suc n) found (targets (entries_at anodes at)) (omega (arith, inside))
        ∙ take_got at found n got

    led : (x : ℕ) → Has x (targets (entries_at anodes at)) → IsLedTo anodes x
    led x h =
        let (entry, there, is) = has_mapped (λ (e : DirEntry). e.anode) x (entries_at anodes at) h in
        let (path, way) = each_has (IsLedTo anodes) at found old.led (has_got at found n got) in (
          path ++ entry.name ∷ [],
          leads-append anodes 1 path (entry.name ∷ []) at x way
              (leads_first anodes at entry.name [] entry x (has_entry anodes at entry sound there) (ap Some (sym is))),
        )

-- all that was found, where the entries of each were looked at
module _ (anodes : List Anode) (found : List ℕ) (sound : are_kept_sound anodes ≡ true) (are : AreFound anodes (length found) found) where
  abbrev led_on : ℕ → List ℕ
  led_on at = targets (entries_at anodes at)

  closed : found ≡ 1 ∷ flat_map led_on found
  closed = are.all ∙ ap (λ xs. 1 ∷ flat_map led_on xs) (take-length found)

  once : IsDistinct nat_eq (1 ∷ flat_map led_on found)
  once = subst (IsDistinct nat_eq) closed are.once

  used : Each (λ at. Each (IsUsed anodes) (entries_at anodes at)) found
  used = subst (Each (λ at. Each (IsUsed anodes) (entries_at anodes at))) (take-length found) are.used

  -- what an entry leads to is found, if the directory is
  next_found : (at : ℕ) (name : List ℕ) (entry : DirEntry) → Has at found → entry_at anodes at name ≡ Some entry → Has entry.anode (flat_map led_on found)
  next_found at name entry h e =
      has_flat led_on at entry.anode found h (has_map (λ (f : DirEntry). f.anode) entry (entries_at anodes at) (entry_has anodes at name entry e).0)

  pub way_found : (path : List (List ℕ)) (from to : ℕ) → Has from found → leads anodes from path ≡ Some to → Has to found
  way_found [] from to h e = let same : from ≡ to = cc in subst (λ x. Has x found) same h
  way_found (name ∷ path) from to h e =
      let (entry, there, rest) = some_then (entry_at anodes from name) (λ (f : DirEntry). leads anodes f.anode path) to e in
      way_found path entry.anode to (subst (Has entry.anode) (sym closed) (inr (next_found from name entry h there))) rest

  pub root_found : Has 1 found
  root_found = subst (Has 1) (sym closed) (inl refl)

  -- where all objects are found
  module _ (all : (at : ℕ) (object : Object) → object_at anodes at ≡ Some object → Has at found) where
    dir_found : (at : ℕ) (name : List ℕ) (entry : DirEntry) → entry_at anodes at name ≡ Some entry → Has at found
    dir_found at name entry e =
        let (object, there, is) = some_then (object_at anodes at) (λ (o : Object). entry_in o.content name) entry e in all at object there

    pub all_named : (at : ℕ) (name : List ℕ) (entry : DirEntry) → entry_at anodes at name ≡ Some entry → IsUsed anodes entry
    all_named at name entry e =
        each_has (IsUsed anodes) entry (entries_at anodes at)
        (each_has (λ a. Each (IsUsed anodes) (entries_at anodes a)) at found used (dir_found at name entry e)) (entry_has anodes at name entry e).0

    pub all_once : (a b : ℕ) (m n : List ℕ) (e f : DirEntry) → entry_at anodes a m ≡ Some e → entry_at anodes b n ≡ Some f → e.anode ≡ f.anode → (a ≡ b) × (m ≡ n)
    all_once a b m n e f is also same =
        let apart = IsDistinct-tail nat_eq 1 (flat_map led_on found) once in
        let ha = entry_has anodes a m e is in
        let hb = entry_has anodes b n f also in
        let fa = dir_found a m e is in
        let fb = dir_found b n f also in
        let te : Has e.anode (led_on a) = has_map (λ (x : DirEntry). x.anode) e (entries_at anodes a) ha.0 in
        let tf : Has e.anode (led_on b) = subst (λ x. Has x (led_on b)) (sym same) (has_map (λ (x : DirEntry). x.anode) f (entries_at anodes b) hb.0) in
        let one : a ≡ b = piece_apart led_on a b e.anode found apart fa fb te tf in
        let here : Has f (entries_at anodes a) = subst (λ x. Has f (entries_at anodes x)) (sym one) hb.0 in
        let entry : e ≡ f = image_apart (λ (x : DirEntry). x.anode) e f (entries_at anodes a) (piece_distinct led_on a found apart fa) ha.0 here same in
        (one, sym ha.1 ∙ ap (λ (x : DirEntry). x.name) entry ∙ hb.1)

    pub all_rootless : (at : ℕ) (name : List ℕ) (entry : DirEntry) → entry_at anodes at name ≡ Some entry → entry.anode ≢ 1
    all_rootless at name entry e root = first_apart 1 entry.anode (flat_map led_on found) once (next_found at name entry (dir_found at name entry e) e) (sym root)

    pub all_reached : (at : ℕ) (object : Object) → object_at anodes at ≡ Some object → (path : List (List ℕ)) × (leads anodes 1 path ≡ Some at)
    all_reached at object e = each_has (IsLedTo anodes) at found are.led (all at object e)

-- a fileset whose objects are all found is well formed
pub found_formed : (fileset : Fileset) (found : List ℕ) → length fileset.anodes ≡ fileset.objects → fileset.objects ≤ OBJECTS_MAX → has_root fileset.anodes ≡ true → are_kept_sound fileset.anodes ≡ true
    → AreFound fileset.anodes (length found) found → ((at : ℕ) → at ≤ OBJECTS_MAX → is_some (object_at fileset.anodes at) ≡ true → list_any (nat_eq at) found ≡ true) → is_at_rest fileset ≡ true → IsWellFormed fileset
found_formed fileset found count limit root sound are has rest = record {
  count = count;
  limit = limit;
  first = eqb-true (unique_at fileset.anodes 1) 1 (and_parts (unique_at fileset.anodes 1 == 1) _ root).0;
  root = (and_parts (unique_at fileset.anodes 1 == 1) _ root).1;
  sound = λ at object e. settled_sound object.content (object_settled fileset at object rest e) (object_kept fileset.anodes at object sound e);
  named = all_named fileset.anodes found sound are all;
  once = all_once fileset.anodes found sound are all;
  rootless = all_rootless fileset.anodes found sound are all;
  reached = all_reached fileset.anodes found sound are all;
}
  where
    all : (at : ℕ) (object : Object) → object_at fileset.anodes at ≡ Some object → Has at found
    all at object e =
        any_has at found
        (has at (let low = object_low fileset.anodes at object e in omega (arith, low, count, limit)) (is_some_of (object_at fileset.anodes at) object e))

-- and a well formed one has all of them found
rise_before : (front back : List DirEntry) (entry other : DirEntry) → names_rise (front ++ entry ∷ back) ≡ true → Has other front → is_before other.name entry.name ≡ true
rise_before [] back entry other rise h = absurd h
rise_before (x ∷ front) back entry other rise (inl e) =
    ap (λ (y : DirEntry). is_before y.name entry.name) e
    ∙ all_has (λ (y : DirEntry). is_before x.name y.name) entry (front ++ entry ∷ back) (and_parts (list_all (λ y. is_before x.name y.name) (front ++ entry ∷ back)) _ rise).0 (has_right entry front (entry ∷ back) (inl refl))
rise_before (x ∷ front) back entry other rise (inr h) =
    rise_before front back entry other (and_parts (list_all (λ y. is_before x.name y.name) (front ++ entry ∷ back)) _ rise).1 h

astray_formed : (fileset : Fileset) (n at : ℕ) (found : List ℕ) → are_kept_sound fileset.anodes ≡ true → IsWellFormed fileset → AreFound fileset.anodes n found → slice_get found n ≡ Some at
    → LeadAstray fileset.anodes (entries_at fileset.anodes at) found → ⊥
astray_formed fileset n at found sound w are got astray = by astray.wrong
  where
    anodes : List Anode
    anodes = fileset.anodes

    inside : (e : DirEntry) → Has e (astray.front ++ astray.entry ∷ astray.back) → entry_at fileset.anodes at e.name ≡ Some e
    inside e h = has_entry fileset.anodes at e sound (subst (Has e) (sym astray.among) h)

    here : entry_at fileset.anodes at astray.entry.name ≡ Some astray.entry
    here = inside astray.entry (has_right astray.entry astray.front (astray.entry ∷ astray.back) (inl refl))

    earlier : Has astray.entry.anode (1 ∷ flat_map (λ a. targets (entries_at fileset.anodes a)) (take n found)) → ⊥
    earlier (inl root) = w.rootless at astray.entry.name astray.entry here root
    earlier (inr h) =
        let (b, before, target) = has_flattened (λ a. targets (entries_at fileset.anodes a)) astray.entry.anode (take n found) h in
        let (f, there, same) = has_mapped (λ (e : DirEntry). e.anode) astray.entry.anode (entries_at fileset.anodes b) target in
        let one = (w.once at b astray.entry.name f.name astray.entry f here (has_entry fileset.anodes b f sound there) same).0 in
        before_apart at found n are.once got (subst (λ x. Has x (take n found)) (sym one) before)

    beside : Has astray.entry.anode (targets astray.front) → ⊥
    beside h =
        let (f, there, same) = has_mapped (λ (e : DirEntry). e.anode) astray.entry.anode astray.front h in
        let names = (w.once at at astray.entry.name f.name astray.entry f here (inside f (has_left f astray.front (astray.entry ∷ astray.back) there)) same).1 in
        let rise : names_rise (astray.front ++ astray.entry ∷ astray.back) ≡ true = ap names_rise (sym astray.among) ∙ entries_rise fileset.anodes at sound in
        let apart = names_apart f.name astray.entry.name (rise_before astray.front astray.back astray.entry f rise there) in
        false≢true (sym apart ∙ ap (same_name f.name) names ∙ same_self f.name)

    by : (IsUsed fileset.anodes astray.entry → ⊥) ⊎ (list_any (nat_eq astray.entry.anode) (found ++ targets astray.front) ≡ true) → ⊥
    by (inl unused) = unused (w.named at astray.entry.name astray.entry here)
    by (inr h) =
        elim (has_either astray.entry.anode found (targets astray.front) (any_has astray.entry.anode (found ++ targets astray.front) h)) [
          | inl k ↦ earlier (subst (Has astray.entry.anode) are.all k)
          | inr k ↦ beside k
        ]

-- entries of well formed filesets lead on
pub astray_none : (anodes : List Anode) (n at : ℕ) (found : List ℕ) → are_kept_sound anodes ≡ true → AreFound anodes n found → slice_get found n ≡ Some at → LeadAstray anodes (entries_at anodes at) found → AreWellFormed anodes → ⊥
astray_none anodes n at found sound are got astray (fileset, same, w) =
    astray_formed fileset n at found (ap are_kept_sound same ∙ sound) w (subst (λ xs. AreFound xs n found) (sym same) are) got
    (subst (λ xs. LeadAstray xs (entries_at xs at) found) (sym same) astray)

-- and there are no more of them than it may have
found_low : (fileset : Fileset) (n : ℕ) (found : List ℕ) (x : ℕ) → IsWellFormed fileset → AreFound fileset.anodes n found → Has x found → (1 ≤ x) × (x ≤ OBJECTS_MAX)
found_low fileset n found x w are h = by (subst (Has x) are.all h)
  where
    by : Has x (1 ∷ flat_map (λ a. targets (entries_at fileset.anodes a)) (take n found)) → (1 ≤ x) × (x ≤ OBJECTS_MAX)
    by (inl root) = (omega (arith, root), omega (arith, root))
    by (inr h) =
        let (b, there, target) = has_flattened (λ a. targets (entries_at fileset.anodes a)) x (take n found) h in
        let (f, listed, same) = has_mapped (λ (e : DirEntry). e.anode) x (entries_at fileset.anodes b) target in
        let used = each_has (IsUsed fileset.anodes) f (entries_at fileset.anodes b) (each_has (λ a. Each (IsUsed fileset.anodes) (entries_at fileset.anodes a)) b (take n found) are.used there) listed in
        let (object, is) = some_of (object_at fileset.anodes f.anode) used.0 in
        let some = object_not_zero fileset.anodes f.anode object is in
        let low = object_low fileset.anodes f.anode object is in
        let count = w.count in let limit = w.limit in
        (omega (arith, same, some), omega (arith, same, low, count, limit))

few_formed : (fileset : Fileset) (n : ℕ) (found : List ℕ) → IsWellFormed fileset → AreFound fileset.anodes n found → length found ≤ OBJECTS_MAX
few_formed fileset n found w are =
    let all : length (0 ∷ found) ≤ 65 = length-le_from_distinct_below (0 ∷ found) 65 (one_more 0 found are.once above) below in omega (arith, all)
  where
    above : (x : ℕ) → Has x found → 0 ≡ x → ⊥
    above x h e = let low = (found_low fileset n found x w are h).0 in omega (arith, low, e)

    below : (q : ℕ) → list_any (nat_eq q) (0 ∷ found) ≡ true → q < 65
    below q h =
        elim (any_has q (0 ∷ found) h) [ inl e ↦ omega (arith, e) | inr k ↦ (let high = (found_low fileset n found q w are k).1 in omega (arith, high)) ]

pub few_found : (anodes : List Anode) (n : ℕ) (found : List ℕ) → AreFound anodes n found → OBJECTS_MAX < n → AreWellFormed anodes → ⊥
few_found anodes n found are many (fileset, same, w) =
    let few = few_formed fileset n found w (subst (λ xs. AreFound xs n found) (sym same) are) in
    let inside = are.few in
    omega (arith, few, inside, many)

-- so all objects are found
pub all_found : (fileset : Fileset) (found : List ℕ) → are_kept_sound fileset.anodes ≡ true → IsWellFormed fileset → AreFound fileset.anodes (length found) found
    → (at : ℕ) → is_some (object_at fileset.anodes at) ≡ true → list_any (nat_eq at) found ≡ true
all_found fileset found sound w are at h =
    let (object, there) = some_of (object_at fileset.anodes at) h in
    let (path, way) = w.reached at object there in
    has_any at found (way_found fileset.anodes found sound are path 1 at (root_found fileset.anodes found sound are) way)

-- and each is sound
pub each_anode : (p : Option Object → Bool) (anodes : List Anode) → p None ≡ true → ((at : ℕ) (object : Object) → object_at anodes at ≡ Some object → p (Some object) ≡ true) → list_all (λ anode. p anode.object) anodes ≡ true
each_anode p anodes none some = by anodes (λ i anode got. each i anode anode.object got refl)
  where
    each : (i : ℕ) (anode : Anode) (o : Option Object) → slice_get anodes i ≡ Some anode → anode.object ≡ o → p o ≡ true
    each i anode None got is = none
    each i anode (Some object) got is =
        let there : object_at anodes (i + 1) ≡ Some object =
        object_from anodes (i + 1) (omega arith)
        ∙ (let e : i + 1 - 1 ≡ i = omega arith in ap (λ k. option_and_then (λ (a : Anode). a.object) (slice_get anodes k)) e)
        ∙ ap (λ o. option_and_then (λ (a : Anode). a.object) o) got ∙ is in
        some (i + 1) object there

    by : (rest : List Anode) → ((i : ℕ) (anode : Anode) → slice_get rest i ≡ Some anode → p anode.object ≡ true) → list_all (λ anode. p anode.object) rest ≡ true
    by [] h = refl
    by (anode ∷ rest) h = and_from (p anode.object) (list_all (λ a. p a.object) rest) (h 0 anode refl) (by rest (λ i. h (suc i)))

pub formed_kept : (fileset : Fileset) → IsWellFormed fileset → are_kept_sound fileset.anodes ≡ true
formed_kept fileset w =
    each_anode (λ o. option_map_or (λ (object : Object). is_kept_sound object.content) o true) fileset.anodes refl
    (λ at object there. sound_kept object.content (w.sound at object there))

-- a test that failed
pub is_not : (b : Bool) → b ≡ false → b ≡ true → ⊥
is_not b e h = false≢true (sym e ∙ h)

pub root_formed : (fileset : Fileset) → IsWellFormed fileset → has_root fileset.anodes ≡ true
root_formed fileset w = and_from (unique_at fileset.anodes 1 == 1) _ (eq-eqb (unique_at fileset.anodes 1) 1 w.first) w.root

-- a list at one of its elements
pub splits : (entries : List DirEntry) (i : ℕ) (entry : DirEntry) → i < length entries → entry ≡ get_or entries i entry → (back : List DirEntry) × (entries ≡ take i entries ++ entry ∷ back)
splits entries i entry lt is = (
  drop (i + 1) entries,
  sym (take-append-drop i entries) ∙ ap (λ xs. take i entries ++ xs) (drop_more entries i entry lt ∙ ap (λ x. x ∷ drop (i + 1) entries) (sym is)),
)
