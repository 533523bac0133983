-- What a step says where something is said of each of a list.
use Rattle.base_types.specs.declared.ids.FilesetId.{FilesetId}
use Rattle.base_types.specs.declared.ids.ServerId.{ServerId}
use Rattle.host_gives.specs.Giving.{outstanding}
use Rattle.host_leaves.specs.Sending.{message_to, sending_give, sending_request}
use Rattle.host_tables.proofs.Lists.{in_either, in_left, in_right}
use Rattle.host_leaves.specs.Sending.{saying}
use Rattle.host_tables.specs.Updates.{home_at}
use Rattle.host_tables.specs.declared.calls.Request.{Request}
use Rattle.host_tables.specs.declared.calls.Request.TheVariants.{Change as AChange, Fetch as AFetch}
use Rattle.host_tables.specs.declared.draft.Draft.{Draft}
use Rattle.host_tables.specs.declared.sites.Site.{Site}
use Rattle.host_tables.specs.declared.tables.Tables.{Tables}
use Rattle.message_types.specs.declared.asking.Change.{Change as ChangeOf}
use Rattle.message_types.specs.declared.asking.Fetch.{Fetch as FetchOf}
use Rattle.message_types.specs.declared.message.Body.{Body}
use Rattle.message_types.specs.declared.message.Body.TheVariants.{Change, Fetch}
use Rattle.message_types.specs.declared.message.Message.{Message}
use Rattle.run_rules.specs.Past.{In}
use Rattle.std.proofs.Common.{Bool, List, None, Option, Some, [], ap, false, fold, get_or, if◌then◌else◌, inl, inr}
use Rattle.std.proofs.Common.{length, refl, subst, sym, take, true, ℕ, ◌++◌, ◌+◌, ◌<◌, ◌∙◌, ◌∷◌, ◌≡◌, ◌⊎◌}
use Rattle.std.proofs.lemmas.List.{take_more}
use Rattle.std.specs.Option.{option_map_or}

-- only what is sent changes
abbrev pub OnlySends : Draft → Draft → Type 0
OnlySends before after = after ≡ record before { sent = after.sent }

pub sends_on : (a b c : Draft) → OnlySends a b → OnlySends b c → OnlySends a c
sends_on a b c p q = q ∙ ap (λ (d : Draft). record d { sent = c.sent }) p

module _ {A : Type 0} (f : Draft → A → Draft) where
  pub fold_only : ((d : Draft) (x : A) → OnlySends d (f d x)) → (d : Draft) (xs : List A) → OnlySends d (fold f d xs)
  fold_only one d [] = refl
  fold_only one d (x ∷ xs) = sends_on d (f d x) (fold f (f d x) xs) (one d x) (fold_only one (f d x) xs)

  -- what is sent was sent before, or for one of the list
  pub fold_says : (P : A → Message → Type 0)
      → ((d : Draft) (x : A) (y : Message) → In y (f d x).sent → In y d.sent ⊎ P x y)
      → (d : Draft) (xs : List A) (y : Message) → In y (fold f d xs).sent
      → In y d.sent ⊎ ((x : A) × In x xs × P x y)
  fold_says P one d [] y i = inl i
  fold_says P one d (x ∷ xs) y i = elim (fold_says P one (f d x) xs y i) [
    | inl j ↦ elim (one d x y j) [ inl k ↦ inl k | inr p ↦ inr (x, inl refl, p) ]
    | inr r ↦ inr (r.0, inr r.1, r.2)
  ]

  -- what was sent is, and what is sent for one of the list
  pub fold_keeps : ((d : Draft) (x : A) (y : Message) → In y d.sent → In y (f d x).sent)
      → (d : Draft) (xs : List A) (y : Message) → In y d.sent → In y (fold f d xs).sent
  fold_keeps one d [] y i = i
  fold_keeps one d (x ∷ xs) y i = fold_keeps one (f d x) xs y (one d x y i)

  pub fold_said : ((d : Draft) (x : A) (y : Message) → In y d.sent → In y (f d x).sent)
      → (x : A) (y : Message) → ((d : Draft) → In y (f d x).sent) → (d : Draft) (xs : List A) → In x xs
      → In y (fold f d xs).sent
  fold_said keep x y says d [] i = elim i [ ]
  fold_said keep x y says d (z ∷ xs) (inl e) =
      fold_keeps keep (f d z) xs y (subst (λ (w : A). In y (f d w).sent) e (says d))
  fold_said keep x y says d (z ∷ xs) (inr i) = fold_said keep x y says (f d z) xs i

-- what one saying adds
pub saying_says : (m : Tables) (v : ServerId) (b : Body) (d : Draft) (y : Message) → In y (saying m v b d).sent
    → In y d.sent ⊎ (y ≡ message_to m v b)
saying_says m v b d y i = elim (in_either d.sent (message_to m v b ∷ []) y i) [
  | inl j ↦ inl j
  | inr j ↦ elim j [ inl e ↦ inr e | inr n ↦ elim n [ ] ]
]

pub saying_said : (m : Tables) (v : ServerId) (b : Body) (d : Draft) → In (message_to m v b) (saying m v b d).sent
saying_said m v b d = in_right d.sent (message_to m v b ∷ []) (message_to m v b) (inl refl)

pub saying_keeps : (m : Tables) (v : ServerId) (b : Body) (d : Draft) (y : Message) → In y d.sent
    → In y (saying m v b d).sent
saying_keeps m v b d y i = in_left d.sent (message_to m v b ∷ []) y i

-- the outstanding give-back of a fileset
pub giving_only : (m : Tables) (d : Draft) (fs : FilesetId) → OnlySends d (sending_give m d fs)
giving_only m d fs = by_one (outstanding m.gives fs)
  where
    by_one : (o : Option Message) → OnlySends d (option_map_or (λ message. saying m (home_at fs) message.body d) o d)
    by_one None = refl
    by_one (Some y) = refl

pub giving_says : (m : Tables) (d : Draft) (fs : FilesetId) (y : Message) → In y (sending_give m d fs).sent
    → In y d.sent ⊎ ((z : Message) × (outstanding m.gives fs ≡ Some z) × (y ≡ message_to m (home_at fs) z.body))
giving_says m d fs y i = by_one (outstanding m.gives fs) refl i
  where
    by_one : (o : Option Message) → outstanding m.gives fs ≡ o
        → In y (option_map_or (λ message. saying m (home_at fs) message.body d) o d).sent
        → In y d.sent ⊎ ((z : Message) × (outstanding m.gives fs ≡ Some z) × (y ≡ message_to m (home_at fs) z.body))
    by_one None e j = inl j
    by_one (Some z) e j = elim (saying_says m (home_at fs) z.body d y j) [ inl k ↦ inl k | inr q ↦ inr (z, e, q) ]

pub giving_keeps : (m : Tables) (d : Draft) (fs : FilesetId) (y : Message) → In y d.sent
    → In y (sending_give m d fs).sent
giving_keeps m d fs y i = by_one (outstanding m.gives fs)
  where
    by_one : (o : Option Message)
        → In y (option_map_or (λ message. saying m (home_at fs) message.body d) o d).sent
    by_one None = i
    by_one (Some z) = saying_keeps m (home_at fs) z.body d y i

pub giving_said : (m : Tables) (d : Draft) (fs : FilesetId) (z : Message) → outstanding m.gives fs ≡ Some z
    → In (message_to m (home_at fs) z.body) (sending_give m d fs).sent
giving_said m d fs z e = subst (λ (o : Option Message). In (message_to m (home_at fs) z.body)
    (option_map_or (λ message. saying m (home_at fs) message.body d) o d).sent) (sym e)
    (saying_said m (home_at fs) z.body d)

-- the outstanding request
pub data IsRequest (m : Tables) (y : Message) : Option Request → Type 0 where
  AskedFetch : (f : FetchOf) → y ≡ message_to m (home_at f.fid.fileset) (Fetch f) → IsRequest m y (Some (AFetch f))
  AskedChange : (v : ServerId) (c : ChangeOf) → y ≡ message_to m v (Change c) → IsRequest m y (Some (AChange v c))

pub asking_only : (m : Tables) (r : Option Request) (d : Draft) → OnlySends d (sending_request m r d)
asking_only m None d = refl
asking_only m (Some (AFetch f)) d = refl
asking_only m (Some (AChange v c)) d = refl

pub asking_says : (m : Tables) (r : Option Request) (d : Draft) (y : Message) → In y (sending_request m r d).sent
    → In y d.sent ⊎ IsRequest m y r
asking_says m None d y i = inl i
asking_says m (Some (AFetch f)) d y i =
    elim (saying_says m (home_at f.fid.fileset) (Fetch f) d y i) [ inl k ↦ inl k | inr q ↦ inr (AskedFetch f q) ]
asking_says m (Some (AChange v c)) d y i =
    elim (saying_says m v (Change c) d y i) [ inl k ↦ inl k | inr q ↦ inr (AskedChange v c q) ]

pub asking_keeps : (m : Tables) (r : Option Request) (d : Draft) (y : Message) → In y d.sent
    → In y (sending_request m r d).sent
asking_keeps m None d y i = i
asking_keeps m (Some (AFetch f)) d y i = saying_keeps m (home_at f.fid.fileset) (Fetch f) d y i
asking_keeps m (Some (AChange v c)) d y i = saying_keeps m v (Change c) d y i

-- what is said of each server of which a test holds
module _ (m : Tables) (b : Site → Body) (test : Site → Bool) where
  abbrev pub says_where : Draft → Site → Draft
  says_where d site = if test site then saying m site.server (b site) d else d

  pub where_only : (d : Draft) (site : Site) → OnlySends d (says_where d site)
  where_only d site = by_test (test site)
    where
      by_test : (t : Bool) → OnlySends d (if t then saying m site.server (b site) d else d)
      by_test true = refl
      by_test false = refl

  pub where_says : (d : Draft) (site : Site) (y : Message) → In y (says_where d site).sent
      → In y d.sent ⊎ ((test site ≡ true) × (y ≡ message_to m site.server (b site)))
  where_says d site y i = by_test (test site) refl i
    where
      by_test : (t : Bool) → test site ≡ t → In y (if t then saying m site.server (b site) d else d).sent
          → In y d.sent ⊎ ((test site ≡ true) × (y ≡ message_to m site.server (b site)))
      by_test true e j = elim (saying_says m site.server (b site) d y j) [ inl k ↦ inl k | inr q ↦ inr (e, q) ]
      by_test false e j = inl j

  pub where_keeps : (d : Draft) (site : Site) (y : Message) → In y d.sent → In y (says_where d site).sent
  where_keeps d site y i = by_test (test site)
    where
      by_test : (t : Bool) → In y (if t then saying m site.server (b site) d else d).sent
      by_test true = saying_keeps m site.server (b site) d y i
      by_test false = i

-- a list up to a place, with what stands there
pub take_next : {A : Type 0} (xs : List A) (i : ℕ) (x : A) → i < length xs → x ≡ get_or xs i x
    → take i xs ++ x ∷ [] ≡ take (i + 1) xs
take_next xs i x low item = sym (take_more xs i x low ∙ ap (λ y. take i xs ++ y ∷ []) (sym item))
