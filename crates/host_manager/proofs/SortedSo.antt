-- What becomes of the tokens that a Revoke names: those in use, the others that are held, those that the host neither
-- has nor gives back, and the filesets whose outstanding give-back names one.
use Rattle.base_types.specs.Ids.{same_fid}
use Rattle.base_types.specs.declared.ids.Fid.{Fid}
use Rattle.base_types.specs.declared.ids.FilesetId.{FilesetId}
use Rattle.host_cache.specs.Holding.{is_id}
use Rattle.host_cache.specs.declared.held.Held.{Held}
use Rattle.host_gives.specs.Giving.{is_outstanding, number_of, outstanding}
use Rattle.host_labels.specs.Labels.{InUse, after_pin, has_id as is_in_use, is_pinned}
use Rattle.host_leaves.specs.Revoking.{fids_of, given_by, has_id, is_leaving, none_sorted, of_file, once_each}
use Rattle.host_leaves.specs.Revoking.{others_of}
use Rattle.host_leaves.specs.Revoking.{pinned, sorted_by, sorting, sorting_held, with_fid, with_given, with_id}
use Rattle.host_leaves.specs.Sending.{with_once}
use Rattle.host_manager.proofs.LeftFile.{in_last, last_or}
use Rattle.host_manager.proofs.OnceSaid.{once_more}
use Rattle.host_manager.proofs.Repeated.{with_once_from}
use Rattle.host_tables.proofs.Lists.{any_false, any_in, by_test, fid_same, filter_in, id_same, in_any}
use Rattle.host_tables.proofs.Lists.{in_filter}
use Rattle.host_tables.proofs.Lists.{in_left, map_in, not_true, same_fid_is, same_id_is, true_not}
use Rattle.host_tables.proofs.Outstanding.{found_in}
use Rattle.host_tables.specs.Tables.{held_of}
use Rattle.host_gives.specs.declared.leavings.Leaving.{Leaving}
use Rattle.host_tables.specs.declared.tables.Tables.{Tables}
use Rattle.message_types.specs.declared.message.Message.{Message}
use Rattle.run_rules.specs.Past.{EachOnce, In}
use Rattle.std.proofs.Common.{append-nil, append_assoc}
use Rattle.std.proofs.Common.{Bool, List, None, Option, Some, [], ap, false, filter, fold, if◌then◌else◌, inl, inr, not}
use Rattle.std.proofs.Common.{refl, subst, sym, true, ◌&&◌, ◌++◌, ◌==◌, ◌∙◌, ◌∷◌, ◌≡◌, ◌⊎◌, ℕ}
use Rattle.std.proofs.lemmas.Bool.{and_parts}
use Rattle.std.specs.List.{find, list_any}
use Rattle.std.specs.Option.{option_map_or}
use Rattle.token_types.specs.Conflicts.{same_id}
use Rattle.token_types.specs.declared.token.Token.{Token}
use Rattle.token_types.specs.declared.token.TokenId.{TokenId}

pub record SortedSo (m : Tables) (ids : List TokenId) (kept left : List Token) (back : List TokenId)
    (given : List FilesetId) : Type 0 where
  pub in_use : (t : Token) → In t kept → In t (held_of m) × (is_in_use m.uses.labels t.id ≡ true) × In t.id ids
  pub idle : (t : Token) → In t left → In t (held_of m) × (is_in_use m.uses.labels t.id ≡ false) × In t.id ids
  pub others : (i : TokenId) → In i back
      → In i ids × (find (is_id i) m.cache.held ≡ None) × (list_any (is_leaving i) m.leaving ≡ false)
  pub on_way : (fs : FilesetId) → In fs given → (z : Message) × (outstanding m.gives fs ≡ Some z)

pub fold_end : {A B : Type 0} (f : B → A → B) (b : B) (xs : List A) (x : A)
    → fold f b (xs ++ x ∷ []) ≡ f (fold f b xs) x
fold_end f b [] x = refl
fold_end f b (y ∷ xs) x = fold_end f (f b y) xs x

-- # Numbers, each once
with_id_from : (ids : List TokenId) (id i : TokenId) → In i (with_id ids id) → In i ids ⊎ (i ≡ id)
with_id_from ids id i j = by_has (has_id id ids) j
  where
    by_has : (b : Bool) → In i (if b then ids else ids ++ id ∷ []) → In i ids ⊎ (i ≡ id)
    by_has true k = inl k
    by_has false k = last_or ids id i k

once_from : (all xs done : List TokenId) → ((i : TokenId) → In i xs → In i all) → ((i : TokenId) → In i done → In i all)
    → (i : TokenId) → In i (fold with_id done xs) → In i all
once_from all [] done from had i j = had i j
once_from all (x ∷ xs) done from had i j = once_from all xs (with_id done x) (λ k l. from k (inr l))
    (λ k l. elim (with_id_from done x k l) [
      | inl a ↦ had k a
      | inr e ↦ subst (λ (z : TokenId). In z all) (sym e) (from x (inl refl))
    ]) i j

pub once_in : (ids : List TokenId) (i : TokenId) → In i (once_each ids) → In i ids
once_in ids i j = once_from ids ids [] (λ k l. l) (λ k l. elim l [ ]) i j

-- # One token
module _ (m : Tables) (ids : List TokenId) where
  outstanding_there : (fs : FilesetId) (n : ℕ) → is_outstanding m.gives fs n ≡ true
      → (z : Message) × (outstanding m.gives fs ≡ Some z)
  outstanding_there fs n e = by_one (outstanding m.gives fs) refl e
    where
      by_one : (o : Option Message) → outstanding m.gives fs ≡ o
          → option_map_or (λ message. number_of message == n) o false ≡ true
          → (z : Message) × (outstanding m.gives fs ≡ Some z)
      by_one None q f = absurd (cc)
      by_one (Some z) q f = (z, q)

  given_so : (id : TokenId) (fss : List FilesetId)
      → ((fs : FilesetId) → In fs fss → (z : Message) × (outstanding m.gives fs ≡ Some z)) → (ys : List Leaving)
      → (fs : FilesetId) → In fs (fold (with_given m id) fss ys) → (z : Message) × (outstanding m.gives fs ≡ Some z)
  given_so id fss had [] fs i = had fs i
  given_so id fss had (y ∷ ys) fs i =
      given_so id (with_given m id fss y) (by_named (is_leaving id y && is_outstanding m.gives y.fileset y.number) refl)
      ys fs i
    where
      by_named : (b : Bool) → (is_leaving id y && is_outstanding m.gives y.fileset y.number) ≡ b → (f : FilesetId)
          → In f (if b then with_once fss y.fileset else fss) → (z : Message) × (outstanding m.gives f ≡ Some z)
      by_named false e f j = had f j
      by_named true e f j = elim (with_once_from fss y.fileset f j) [
        | inl k ↦ had f k
        | inr q ↦ subst (λ (x : FilesetId). (z : Message) × (outstanding m.gives x ≡ Some z)) (sym q)
            (outstanding_there y.fileset y.number
            (and_parts (is_leaving id y) (is_outstanding m.gives y.fileset y.number) e).1)
      ]

  -- the tokens of some of the numbers
  abbrev KeptBy : List TokenId → List Token
  KeptBy done = (fold (sorting m) none_sorted done).kept

  abbrev LeftBy : List TokenId → List Token
  LeftBy done = (fold (sorting m) none_sorted done).left

  abbrev BackBy : List TokenId → List TokenId
  BackBy done = (fold (sorting m) none_sorted done).back

  abbrev GivenBy : List TokenId → List FilesetId
  GivenBy done = (fold (sorting m) none_sorted done).given

  abbrev SoFar : List TokenId → Type 0
  SoFar done = SortedSo m ids (KeptBy done) (LeftBy done) (BackBy done) (GivenBy done)

  -- one more of them
  abbrev SoBy : List TokenId → TokenId → Option Held → Type 0
  SoBy done id o = SortedSo m ids
      (sorting_held m id o (given_by m id (fold (sorting m) none_sorted done))).kept
      (sorting_held m id o (given_by m id (fold (sorting m) none_sorted done))).left
      (sorting_held m id o (given_by m id (fold (sorting m) none_sorted done))).back
      (sorting_held m id o (given_by m id (fold (sorting m) none_sorted done))).given

  held_so : (done : List TokenId) (id : TokenId) → In id ids → SoFar done → (o : Option Held)
      → find (is_id id) m.cache.held ≡ o → SoBy done id o
  held_so done id within so None e = by_way (list_any (is_leaving id) m.leaving) refl
    where
      by_way : (b : Bool) → list_any (is_leaving id) m.leaving ≡ b → SortedSo m ids
          (if b then given_by m id (fold (sorting m) none_sorted done)
          else record (given_by m id (fold (sorting m) none_sorted done)) { back = BackBy done ++ id ∷ [] }).kept
          (if b then given_by m id (fold (sorting m) none_sorted done)
          else record (given_by m id (fold (sorting m) none_sorted done)) { back = BackBy done ++ id ∷ [] }).left
          (if b then given_by m id (fold (sorting m) none_sorted done)
          else record (given_by m id (fold (sorting m) none_sorted done)) { back = BackBy done ++ id ∷ [] }).back
          (if b then given_by m id (fold (sorting m) none_sorted done)
          else record (given_by m id (fold (sorting m) none_sorted done)) { back = BackBy done ++ id ∷ [] }).given
      by_way true w = record {
        in_use = so.in_use;
        idle = so.idle;
        others = so.others;
        on_way = given_so id (GivenBy done) so.on_way m.leaving;
      }
      by_way false w = record {
        in_use = so.in_use;
        idle = so.idle;
        others = λ i j. elim (last_or (BackBy done) id i j) [
          | inl k ↦ so.others i k
          | inr q ↦ subst (λ (z : TokenId). In z ids × (find (is_id z) m.cache.held ≡ None)
              × (list_any (is_leaving z) m.leaving ≡ false)) (sym q) (within, e, w)
        ];
        on_way = given_so id (GivenBy done) so.on_way m.leaving;
      }
  held_so done id within so (Some h) e = by_use (is_in_use m.uses.labels id) refl
    where
      held : In h.token (held_of m)
      held = map_in (λ (z : Held). z.token) m.cache.held h (found_in (is_id id) m.cache.held h e).0

      its_id : h.token.id ≡ id
      its_id = same_id_is h.token.id id (found_in (is_id id) m.cache.held h e).1

      by_use : (b : Bool) → is_in_use m.uses.labels id ≡ b → SortedSo m ids
          (if b then record (given_by m id (fold (sorting m) none_sorted done)) { kept = KeptBy done ++ h.token ∷ [] }
          else record (given_by m id (fold (sorting m) none_sorted done)) { left = LeftBy done ++ h.token ∷ [] }).kept
          (if b then record (given_by m id (fold (sorting m) none_sorted done)) { kept = KeptBy done ++ h.token ∷ [] }
          else record (given_by m id (fold (sorting m) none_sorted done)) { left = LeftBy done ++ h.token ∷ [] }).left
          (if b then record (given_by m id (fold (sorting m) none_sorted done)) { kept = KeptBy done ++ h.token ∷ [] }
          else record (given_by m id (fold (sorting m) none_sorted done)) { left = LeftBy done ++ h.token ∷ [] }).back
          (if b then record (given_by m id (fold (sorting m) none_sorted done)) { kept = KeptBy done ++ h.token ∷ [] }
          else record (given_by m id (fold (sorting m) none_sorted done)) { left = LeftBy done ++ h.token ∷ [] }).given
      by_use true u = record {
        in_use = λ t i. elim (last_or (KeptBy done) h.token t i) [
          | inl k ↦ so.in_use t k
          | inr q ↦ subst (λ (z : Token). In z (held_of m) × (is_in_use m.uses.labels z.id ≡ true) × In z.id ids)
              (sym q) (
                held,
                ap (is_in_use m.uses.labels) its_id ∙ u,
                subst (λ (z : TokenId). In z ids) (sym its_id) within,
              )
        ];
        idle = so.idle;
        others = so.others;
        on_way = given_so id (GivenBy done) so.on_way m.leaving;
      }
      by_use false u = record {
        in_use = so.in_use;
        idle = λ t i. elim (last_or (LeftBy done) h.token t i) [
          | inl k ↦ so.idle t k
          | inr q ↦ subst (λ (z : Token). In z (held_of m) × (is_in_use m.uses.labels z.id ≡ false) × In z.id ids)
              (sym q) (
                held,
                ap (is_in_use m.uses.labels) its_id ∙ u,
                subst (λ (z : TokenId). In z ids) (sym its_id) within,
              )
        ];
        others = so.others;
        on_way = given_so id (GivenBy done) so.on_way m.leaving;
      }

  one_so : (done : List TokenId) (id : TokenId) → In id ids → SoFar done → SoFar (done ++ id ∷ [])
  one_so done id within so =
      let e = fold_end (sorting m) none_sorted done id in
      let n = held_so done id within so (find (is_id id) m.cache.held) refl in record {
        in_use = λ t i. n.in_use t (subst (λ z. In t z.kept) e i);
        idle = λ t i. n.idle t (subst (λ z. In t z.left) e i);
        others = λ j i. n.others j (subst (λ z. In j z.back) e i);
        on_way = λ fs i. n.on_way fs (subst (λ z. In fs z.given) e i);
      }

  all_so : (done xs : List TokenId) → ((i : TokenId) → In i xs → In i ids) → SoFar done → SoFar (done ++ xs)
  all_so done [] from so = subst SoFar (sym (append-nil done)) so
  all_so done (x ∷ xs) from so =
      subst SoFar (append_assoc done (x ∷ []) xs)
      (all_so (done ++ x ∷ []) xs (λ i j. from i (inr j)) (one_so done x (from x (inl refl)) so))

  pub sorted_so : SortedSo m ids (sorted_by m ids).kept (sorted_by m ids).left (sorted_by m ids).back
      (sorted_by m ids).given
  sorted_so = all_so [] (once_each ids) (once_in ids) (record {
    in_use = λ t i. elim i [ ];
    idle = λ t i. elim i [ ];
    others = λ i j. elim j [ ];
    on_way = λ fs i. elim i [ ];
  })

-- # Pins
pinned_one : (uses : InUse) (id i : TokenId) → is_pinned (after_pin uses id) i ≡ true
    → (is_pinned uses i ≡ true) ⊎ (i ≡ id)
pinned_one uses id i e = by_pinned (is_pinned uses id) e
  where
    by_pinned : (b : Bool) → list_any (λ (other : TokenId). same_id other i)
        (if b then uses.pinned else uses.pinned ++ id ∷ []) ≡ true → (is_pinned uses i ≡ true) ⊎ (i ≡ id)
    by_pinned true f = inl f
    by_pinned false f =
        let r = in_any (λ (other : TokenId). same_id other i) (uses.pinned ++ id ∷ []) f in
        elim (last_or uses.pinned id r.0 r.1) [
          | inl j ↦ inl (any_in (λ (other : TokenId). same_id other i) uses.pinned r.0 j r.2)
          | inr q ↦ inr (sym (same_id_is r.0 i r.2) ∙ q)
        ]

one_pinned : (uses : InUse) (id i : TokenId) → (is_pinned uses i ≡ true) ⊎ (i ≡ id)
    → is_pinned (after_pin uses id) i ≡ true
one_pinned uses id i e = elim (by_test (is_pinned uses id)) [
  | inl t ↦ subst (λ (b : Bool). list_any (λ (other : TokenId). same_id other i)
      (if b then uses.pinned else uses.pinned ++ id ∷ []) ≡ true) (sym t) (elim e [
        | inl p ↦ p
        | inr q ↦ subst (λ (z : TokenId). is_pinned uses z ≡ true) (sym q) t
      ])
  | inr f ↦ subst (λ (b : Bool). list_any (λ (other : TokenId). same_id other i)
      (if b then uses.pinned else uses.pinned ++ id ∷ []) ≡ true) (sym f) (elim e [
        | inl p ↦
            let r = in_any (λ (other : TokenId). same_id other i) uses.pinned p in
            any_in (λ (other : TokenId). same_id other i) (uses.pinned ++ id ∷ []) r.0
            (in_left uses.pinned (id ∷ []) r.0 r.1) r.2
        | inr q ↦ any_in (λ (other : TokenId). same_id other i) (uses.pinned ++ id ∷ []) id (in_last uses.pinned id)
            (id_same id i (sym q))
      ])
]

pub pinned_from : (ts : List Token) (uses : InUse) (i : TokenId) → is_pinned (pinned uses ts) i ≡ true
    → (is_pinned uses i ≡ true) ⊎ ((t : Token) × In t ts × (t.id ≡ i))
pinned_from [] uses i e = inl e
pinned_from (t ∷ ts) uses i e = elim (pinned_from ts (after_pin uses t.id) i e) [
  | inl p ↦ elim (pinned_one uses t.id i p) [ inl q ↦ inl q | inr q ↦ inr (t, inl refl, sym q) ]
  | inr r ↦ inr (r.0, inr r.1, r.2)
]

pub still_pinned : (ts : List Token) (uses : InUse) (i : TokenId) → is_pinned uses i ≡ true
    → is_pinned (pinned uses ts) i ≡ true
still_pinned [] uses i e = e
still_pinned (t ∷ ts) uses i e = still_pinned ts (after_pin uses t.id) i (one_pinned uses t.id i (inl e))

pub now_pinned : (ts : List Token) (uses : InUse) (t : Token) → In t ts → is_pinned (pinned uses ts) t.id ≡ true
now_pinned [] uses t i = elim i [ ]
now_pinned (x ∷ ts) uses t (inl e) =
    still_pinned ts (after_pin uses x.id) t.id (one_pinned uses x.id t.id (inr (ap (λ (z : Token). z.id) e)))
now_pinned (x ∷ ts) uses t (inr i) = now_pinned ts (after_pin uses x.id) t i

-- # Files, each once
with_fid_from : (fids : List Fid) (t : Token) (f : Fid) → In f (with_fid fids t) → In f fids ⊎ (f ≡ t.fid)
with_fid_from fids t f i = by_has (list_any (same_fid t.fid) fids) i
  where
    by_has : (b : Bool) → In f (if b then fids else fids ++ t.fid ∷ []) → In f fids ⊎ (f ≡ t.fid)
    by_has true j = inl j
    by_has false j = last_or fids t.fid f j

with_fid_keeps : (fids : List Fid) (t : Token) (f : Fid) → In f fids → In f (with_fid fids t)
with_fid_keeps fids t f i = by_has (list_any (same_fid t.fid) fids)
  where
    by_has : (b : Bool) → In f (if b then fids else fids ++ t.fid ∷ [])
    by_has true = i
    by_has false = in_left fids (t.fid ∷ []) f i

with_fid_has : (fids : List Fid) (t : Token) → In t.fid (with_fid fids t)
with_fid_has fids t = elim (by_test (list_any (same_fid t.fid) fids)) [
  | inl e ↦
      let r = in_any (same_fid t.fid) fids e in
      subst (λ (b : Bool). In t.fid (if b then fids else fids ++ t.fid ∷ [])) (sym e)
      (subst (λ (z : Fid). In z fids) (sym (same_fid_is t.fid r.0 r.2)) r.1)
  | inr f ↦ subst (λ (b : Bool). In t.fid (if b then fids else fids ++ t.fid ∷ [])) (sym f) (in_last fids t.fid)
]

with_fid_once : (fids : List Fid) (t : Token) → EachOnce fids → EachOnce (with_fid fids t)
with_fid_once fids t once = elim (by_test (list_any (same_fid t.fid) fids)) [
  | inl e ↦ subst (λ (b : Bool). EachOnce (if b then fids else fids ++ t.fid ∷ [])) (sym e) once
  | inr f ↦ subst (λ (b : Bool). EachOnce (if b then fids else fids ++ t.fid ∷ [])) (sym f)
      (once_more fids t.fid once (λ i. any_false (same_fid t.fid) fids f t.fid i (fid_same t.fid t.fid refl)))
]

files_keep : (ts : List Token) (fids : List Fid) (f : Fid) → In f fids → In f (fold with_fid fids ts)
files_keep [] fids f i = i
files_keep (t ∷ ts) fids f i = files_keep ts (with_fid fids t) f (with_fid_keeps fids t f i)

files_have : (ts : List Token) (fids : List Fid) (t : Token) → In t ts → In t.fid (fold with_fid fids ts)
files_have [] fids t i = elim i [ ]
files_have (x ∷ ts) fids t (inl e) = files_keep ts (with_fid fids x) t.fid
    (subst (λ (z : Token). In z.fid (with_fid fids x)) (sym e) (with_fid_has fids x))
files_have (x ∷ ts) fids t (inr i) = files_have ts (with_fid fids x) t i

files_from : (ts : List Token) (fids : List Fid) (f : Fid) → In f (fold with_fid fids ts)
    → In f fids ⊎ ((t : Token) × In t ts × (t.fid ≡ f))
files_from [] fids f i = inl i
files_from (x ∷ ts) fids f i = elim (files_from ts (with_fid fids x) f i) [
  | inl j ↦ elim (with_fid_from fids x f j) [ inl k ↦ inl k | inr e ↦ inr (x, inl refl, sym e) ]
  | inr r ↦ inr (r.0, inr r.1, r.2)
]

files_once : (ts : List Token) (fids : List Fid) → EachOnce fids → EachOnce (fold with_fid fids ts)
files_once [] fids once = once
files_once (t ∷ ts) fids once = files_once ts (with_fid fids t) (with_fid_once fids t once)

pub filter_once : {A : Type 0} (test : A → Bool) (xs : List A) → EachOnce xs → EachOnce (filter test xs)
filter_once test [] once = tt
filter_once {A = A} test (x ∷ xs) once = by_head (filter_once test xs once.1) (test x)
  where
    by_head : EachOnce (filter test xs) → (b : Bool) → EachOnce (if b then x ∷ filter test xs else filter test xs)
    by_head rest true = ((λ i. once.0 (in_filter test xs x i).0), rest)
    by_head rest false = rest

pub fids_once : (ts : List Token) → EachOnce (fids_of ts)
fids_once ts = files_once ts [] tt

pub fids_in : (ts : List Token) (t : Token) → In t ts → In t.fid (fids_of ts)
fids_in ts t i = files_have ts [] t i

pub in_fids : (ts : List Token) (f : Fid) → In f (fids_of ts) → (t : Token) × In t ts × (t.fid ≡ f)
in_fids ts f i = elim (files_from ts [] f i) [ inl n ↦ elim n [ ] | inr r ↦ r ]

-- one file, and the others of tokens
pub each_file : (fid : Fid) (ts : List Token) → EachOnce (fid ∷ others_of fid ts)
each_file fid ts = (
  (λ i. not_true (same_fid fid fid) (in_filter (λ (other : Fid). not (same_fid other fid)) (fids_of ts) fid i).1
      (fid_same fid fid refl)),
  filter_once (λ (other : Fid). not (same_fid other fid)) (fids_of ts) (files_once ts [] tt),
)

pub file_among : (fid : Fid) (ts : List Token) (t : Token) → In t ts → In t.fid (fid ∷ others_of fid ts)
file_among fid ts t i = elim (by_test (same_fid t.fid fid)) [
  | inl e ↦ inl (same_fid_is t.fid fid e)
  | inr n ↦ inr (filter_in (λ (other : Fid). not (same_fid other fid)) (fids_of ts) t.fid (fids_in ts t i)
      (true_not (same_fid t.fid fid) (λ e. let p = sym e ∙ n in absurd (cc))))
]

pub among_files : (fid : Fid) (ts : List Token) (f : Fid) → In f (fid ∷ others_of fid ts)
    → (f ≡ fid) ⊎ ((t : Token) × In t ts × (t.fid ≡ f))
among_files fid ts f (inl e) = inl e
among_files fid ts f (inr i) =
    inr (in_fids ts f (in_filter (λ (other : Fid). not (same_fid other fid)) (fids_of ts) f i).0)

-- the tokens of a file
pub file_tokens : (fid : Fid) (ts : List Token) (t : Token) → In t (of_file fid ts) → In t ts × (t.fid ≡ fid)
file_tokens fid ts t i =
    let r = in_filter (λ (token : Token). same_fid token.fid fid) ts t i in (r.0, same_fid_is t.fid fid r.1)

pub tokens_file : (fid : Fid) (ts : List Token) (t : Token) → In t ts → t.fid ≡ fid → In t (of_file fid ts)
tokens_file fid ts t i e = filter_in (λ (token : Token). same_fid token.fid fid) ts t i (fid_same t.fid fid e)
