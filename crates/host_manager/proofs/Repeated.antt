-- What a host says again at a lapse: all of it, nothing else, and each message once.
use Rattle.base_types.specs.declared.ids.FilesetId.{FilesetId}
use Rattle.base_types.specs.declared.ids.ServerId.{ServerId}
use Rattle.host_asks.specs.Claiming.{claim_of, claiming_again, helloing, parting_again, repeating}
use Rattle.host_gives.specs.Giving.{IsSound as IsSoundGives, give_of, given_in, outstanding}
use Rattle.host_leaves.specs.Sending.{filesets_given, message_to, saying, sending_give, sending_request, with_fileset}
use Rattle.host_leaves.specs.Sending.{with_once}
use Rattle.host_manager.proofs.Folding.{IsRequest, asking_keeps, asking_says, fold_keeps, fold_said, fold_says}
use Rattle.host_manager.proofs.Folding.{giving_keeps, giving_said, giving_says, says_where, where_keeps}
use Rattle.host_manager.proofs.Folding.{where_says}
use Rattle.host_manager.proofs.Folding.IsRequest.{AskedChange, AskedFetch}
use Rattle.host_manager.proofs.OnceSaid.{fold_once, once_more}
use Rattle.host_tables.proofs.HearingParts.{server_is}
use Rattle.host_tables.proofs.Lists.{any_false, by_test, in_any, in_either, in_left, in_right}
use Rattle.host_tables.proofs.Outstanding.{outstanding_is}
use Rattle.host_tables.specs.Drafts.{no_draft}
use Rattle.host_tables.specs.Tables.{fresh_site, site_at}
use Rattle.host_tables.specs.Tidy.{servers_in}
use Rattle.host_tables.specs.Updates.{home_at}
use Rattle.host_tables.specs.declared.calls.Request.{Request}
use Rattle.host_tables.specs.declared.calls.Request.TheVariants.{Change as AChange, Fetch as AFetch}
use Rattle.host_tables.specs.declared.draft.Draft.{Draft}
use Rattle.host_tables.specs.declared.sites.Site.{Site}
use Rattle.host_tables.specs.declared.tables.Tables.{Tables}
use Rattle.message_types.specs.declared.giving.Give.{Give}
use Rattle.message_types.specs.declared.message.Body.{Body}
use Rattle.message_types.specs.declared.message.Body.TheVariants.{Bye, Change, Fetch, GiveBack, Hello}
use Rattle.message_types.specs.declared.message.Body.TheVariants.{Reclaim as AReclaim}
use Rattle.message_types.specs.declared.message.Message.{Message}
use Rattle.run_rules.specs.Past.{EachOnce, In}
use Rattle.std.proofs.Common.{Bool, List, None, Option, Some, [], ap, arith, cond, eq-eqb, eqb-true, false, fold}
use Rattle.std.proofs.Common.{if◌then◌else◌}
use Rattle.std.proofs.Common.{inl, inr, map, not, refl, subst, sym, true, unwrap_or, ℕ, ◌&&◌, ◌++◌, ◌==◌, ◌∙◌, ◌∷◌}
use Rattle.std.proofs.Common.{◌≡◌, ◌⊎◌}
use Rattle.std.specs.List.{find, list_any}
use Rattle.std.specs.Option.{option_map_or}

-- # A site of which something is known is one of the sites
pub site_among : (test : Site → Bool) (sites : List Site) (v : ServerId) → test (fresh_site v) ≡ false
    → test (site_at sites v) ≡ true → (site : Site) × In site sites × (site.server ≡ v) × (test site ≡ true)
site_among test [] v fresh e = let p = sym fresh ∙ e in absurd (cc)
site_among test (x ∷ sites) v fresh e = by_head (site_among test sites v fresh) (x.server.0 == v.0) refl e
  where
    by_head : (test (site_at sites v) ≡ true
        → (site : Site) × In site sites × (site.server ≡ v) × (test site ≡ true))
        → (b : Bool) → (x.server.0 == v.0) ≡ b
        → test (unwrap_or (cond b (Some x) (find (λ (z : Site). z.server.0 == v.0) sites)) (fresh_site v)) ≡ true
        → (site : Site) × In site (x ∷ sites) × (site.server ≡ v) × (test site ≡ true)
    by_head rest true t g = (x, inl refl, server_is x.server v t, g)
    by_head rest false t g = let r = rest g in (r.0, inr r.1, r.2, r.3)

-- # The filesets of give-backs
pub with_once_has : (fss : List FilesetId) (fs : FilesetId) → In fs (with_once fss fs)
with_once_has fss fs = elim (by_test (list_any (λ (other : FilesetId). other.0 == fs.0) fss)) [
  | inl t ↦
      let r = in_any (λ (other : FilesetId). other.0 == fs.0) fss t in
      let n = eqb-true r.0.0 fs.0 r.2 in
      let same : r.0 ≡ fs = λ i. record { 0 = n i } in
      subst (λ (b : Bool). In fs (if b then fss else fss ++ fs ∷ [])) (sym t)
      (subst (λ (x : FilesetId). In x fss) same r.1)
  | inr f ↦ subst (λ (b : Bool). In fs (if b then fss else fss ++ fs ∷ [])) (sym f)
      (in_right fss (fs ∷ []) fs (inl refl))
]

pub with_once_keeps : (fss : List FilesetId) (fs other : FilesetId) → In other fss → In other (with_once fss fs)
with_once_keeps fss fs other i = by_if (list_any (λ (x : FilesetId). x.0 == fs.0) fss)
  where
    by_if : (b : Bool) → In other (if b then fss else fss ++ fs ∷ [])
    by_if true = i
    by_if false = in_left fss (fs ∷ []) other i

pub with_once_from : (fss : List FilesetId) (fs other : FilesetId) → In other (with_once fss fs)
    → In other fss ⊎ (other ≡ fs)
with_once_from fss fs other i = by_if (list_any (λ (x : FilesetId). x.0 == fs.0) fss) i
  where
    by_if : (b : Bool) → In other (if b then fss else fss ++ fs ∷ []) → In other fss ⊎ (other ≡ fs)
    by_if true j = inl j
    by_if false j = elim (in_either fss (fs ∷ []) other j) [
      | inl k ↦ inl k
      | inr k ↦ elim k [ inl e ↦ inr e | inr n ↦ elim n [ ] ]
    ]

pub with_once_once : (fss : List FilesetId) (fs : FilesetId) → EachOnce fss → EachOnce (with_once fss fs)
with_once_once fss fs once = elim (by_test (list_any (λ (x : FilesetId). x.0 == fs.0) fss)) [
  | inl t ↦ subst (λ (b : Bool). EachOnce (if b then fss else fss ++ fs ∷ [])) (sym t) once
  | inr f ↦ subst (λ (b : Bool). EachOnce (if b then fss else fss ++ fs ∷ [])) (sym f)
      (once_more fss fs once (λ i. any_false (λ (x : FilesetId). x.0 == fs.0) fss f fs i (eq-eqb fs.0 fs.0 refl)))
]

with_keeps : (fss : List FilesetId) (x : Message) (fs : FilesetId) → In fs fss → In fs (with_fileset fss x)
with_keeps fss x fs i = by_give (give_of x)
  where
    by_give : (o : Option Give) → In fs (option_map_or (λ (give : Give). with_once fss give.fid.fileset) o fss)
    by_give None = i
    by_give (Some g) = with_once_keeps fss g.fid.fileset fs i

filesets_keep : (gives : List Message) (fss : List FilesetId) (fs : FilesetId) → In fs fss
    → In fs (fold with_fileset fss gives)
filesets_keep [] fss fs i = i
filesets_keep (x ∷ gives) fss fs i = filesets_keep gives (with_fileset fss x) fs (with_keeps fss x fs i)

pub filesets_have : (gives : List Message) (fss : List FilesetId) (y : Message) (g : Give) → In y gives
    → y.body ≡ GiveBack g → In g.fid.fileset (fold with_fileset fss gives)
filesets_have [] fss y g i e = elim i [ ]
filesets_have (x ∷ gives) fss y g (inr i) e = filesets_have gives (with_fileset fss x) y g i e
filesets_have (x ∷ gives) fss y g (inl p) e =
    let o : give_of x ≡ Some g = ap (λ (z : Message). give_of z) (sym p) ∙ ap given_in e in
    filesets_keep gives (with_fileset fss x) g.fid.fileset
    (subst (λ (o : Option Give). In g.fid.fileset (option_map_or (λ (give : Give). with_once fss give.fid.fileset) o
    fss)) (sym o) (with_once_has fss g.fid.fileset))

pub filesets_once : (gives : List Message) (fss : List FilesetId) → EachOnce fss
    → EachOnce (fold with_fileset fss gives)
filesets_once [] fss once = once
filesets_once (x ∷ gives) fss once = filesets_once gives (with_fileset fss x) (by_give (give_of x))
  where
    by_give : (o : Option Give) → EachOnce (option_map_or (λ (give : Give). with_once fss give.fid.fileset) o fss)
    by_give None = once
    by_give (Some g) = with_once_once fss g.fid.fileset once

-- # What is said
pub data Repeats (m : Tables) (y : Message) : Type 0 where
  Greets : (site : Site) → In site m.sites → (site.greeted && not site.welcome) ≡ true
      → y ≡ message_to m site.server Hello → Repeats m y
  GivesIt : (fs : FilesetId) (z : Message) → outstanding m.gives fs ≡ Some z → y ≡ message_to m (home_at fs) z.body
      → Repeats m y
  ClaimsIt : (site : Site) → In site m.sites → site.claimed ≡ true
      → y ≡ message_to m site.server (AReclaim (claim_of m site.server)) → Repeats m y
  AsksIt : IsRequest m y m.request → Repeats m y
  PartsIt : (site : Site) → In site m.sites → (site.said_bye && not site.has_bye) ≡ true
      → y ≡ message_to m site.server Bye → Repeats m y

-- which of them a message is
abbrev pub sort_of : Body → ℕ
sort_of Hello = 0
sort_of (GiveBack g) = 1
sort_of (AReclaim c) = 2
sort_of (Fetch f) = 3
sort_of (Change c) = 3
sort_of Bye = 4
sort_of _ = 5

-- what is said of each of some sites, once
module _ (m : Tables) (sort : ℕ) (b : Site → Body) (test : Site → Bool)
    (of_sort : (site : Site) → sort_of (b site) ≡ sort) where
  pub sites_once : (sites : List Site) → EachOnce (servers_in sites) → (d : Draft) → EachOnce d.sent
      → ((y : Message) → In y d.sent → sort_of y.body ≡ sort → ⊥) → EachOnce (fold (says_where m b test) d sites).sent
  sites_once sites once d sent apart =
      fold_once (says_where m b test) (λ (s : Site). s.server) (λ (y : Message). y.server)
      (λ y. sort_of y.body ≡ sort) keeps
      (λ e x y i. elim (where_says m b test e x y i) [
        | inl j ↦ inl j
        | inr r ↦ inr (ap (λ (z : Message). z.server) r.1)
      ])
      sites once d sent (λ y i o j. apart y i o)
    where
      keeps : (e : Draft) (x : Site) → EachOnce e.sent
          → ((y : Message) → In y e.sent → sort_of y.body ≡ sort → y.server ≡ x.server → ⊥)
          → EachOnce (says_where m b test e x).sent
      keeps e x sent apart = by_if (test x)
        where
          by_if : (t : Bool) → EachOnce (if t then saying m x.server (b x) e else e).sent
          by_if true = once_more e.sent (message_to m x.server (b x)) sent
              (λ i. apart (message_to m x.server (b x)) i (of_sort x) refl)
          by_if false = sent

  sites_sort : (sites : List Site) (d : Draft) (y : Message) → In y (fold (says_where m b test) d sites).sent
      → In y d.sent ⊎ (sort_of y.body ≡ sort)
  sites_sort sites d y i = elim (fold_says (says_where m b test) (λ site y. sort_of y.body ≡ sort)
      (λ e x y j. elim (where_says m b test e x y j) [
        | inl k ↦ inl k
        | inr r ↦ inr (ap (λ (z : Message). sort_of z.body) r.1 ∙ of_sort x)
      ]) d sites y i) [
        | inl j ↦ inl j
        | inr r ↦ inr r.2
      ]

module _ (m : Tables) (sound : IsSoundGives m.gives) where
  -- the fileset of a give-back
  abbrev pub fileset_of : Message → FilesetId
  fileset_of y = option_map_or (λ (give : Give). give.fid.fileset) (give_of y) (record { 0 = 0 })

  give_is : (fs : FilesetId) (z : Message) → outstanding m.gives fs ≡ Some z → (v : ServerId)
      → (sort_of z.body ≡ 1) × (fileset_of (message_to m v z.body) ≡ fs)
  give_is fs z e v =
      let r = outstanding_is m.gives sound fs z e in (
        ap sort_of r.1,
        ap (λ (b : Body). option_map_or (λ (give : Give). give.fid.fileset) (given_in b) (record { 0 = 0 })) r.1 ∙ r.2,
      )

  -- those of other filesets may have been said
  pub given_apart : (fss : List FilesetId) → EachOnce fss → (d : Draft) → EachOnce d.sent
      → ((y : Message) → In y d.sent → sort_of y.body ≡ 1 → In (fileset_of y) fss → ⊥)
      → EachOnce (fold (sending_give m) d fss).sent
  given_apart fss once d sent apart =
      fold_once (sending_give m) (λ (fs : FilesetId). fs) fileset_of (λ y. sort_of y.body ≡ 1) keeps
      (λ e x y i. elim (giving_says m e x y i) [
        | inl j ↦ inl j
        | inr r ↦ inr (ap fileset_of r.2 ∙ (give_is x r.0 r.1 (home_at x)).1)
      ])
      fss (subst EachOnce (sym (map_same fss)) once) d sent
      (λ y i o j. apart y i o (subst (λ (xs : List FilesetId). In (fileset_of y) xs) (map_same fss) j))
    where
      map_same : (xs : List FilesetId) → map (λ (fs : FilesetId). fs) xs ≡ xs
      map_same [] = refl
      map_same (x ∷ xs) = ap (λ (ys : List FilesetId). x ∷ ys) (map_same xs)

      keeps : (e : Draft) (x : FilesetId) → EachOnce e.sent
          → ((y : Message) → In y e.sent → sort_of y.body ≡ 1 → fileset_of y ≡ x → ⊥)
          → EachOnce (sending_give m e x).sent
      keeps e x sent apart = by_one (outstanding m.gives x) refl
        where
          by_one : (o : Option Message) → outstanding m.gives x ≡ o
              → EachOnce (option_map_or (λ message. saying m (home_at x) message.body e) o e).sent
          by_one None f = sent
          by_one (Some z) f =
              let r = give_is x z f (home_at x) in
              once_more e.sent (message_to m (home_at x) z.body) sent
              (λ i. apart (message_to m (home_at x) z.body) i r.0 r.1)

  pub given_once : (fss : List FilesetId) → EachOnce fss → (d : Draft) → EachOnce d.sent
      → ((y : Message) → In y d.sent → sort_of y.body ≡ 1 → ⊥) → EachOnce (fold (sending_give m) d fss).sent
  given_once fss once d sent apart = given_apart fss once d sent (λ y i o j. apart y i o)

  given_sort : (fss : List FilesetId) (d : Draft) (y : Message) → In y (fold (sending_give m) d fss).sent
      → In y d.sent ⊎ (sort_of y.body ≡ 1)
  given_sort fss d y i = elim (fold_says (sending_give m) (λ fs y. sort_of y.body ≡ 1)
      (λ e x y j. elim (giving_says m e x y j) [
        | inl k ↦ inl k
        | inr r ↦ inr (ap (λ (z : Message). sort_of z.body) r.2 ∙ (give_is x r.0 r.1 (home_at x)).0)
      ]) d fss y i) [
        | inl j ↦ inl j
        | inr r ↦ inr r.2
      ]

  asked_once : (q : Option Request) (d : Draft) → EachOnce d.sent
      → ((y : Message) → In y d.sent → sort_of y.body ≡ 3 → ⊥) → EachOnce (sending_request m q d).sent
  asked_once None d sent apart = sent
  asked_once (Some (AFetch f)) d sent apart = once_more d.sent (message_to m (home_at f.fid.fileset) (Fetch f)) sent
      (λ i. apart (message_to m (home_at f.fid.fileset) (Fetch f)) i refl)
  asked_once (Some (AChange v c)) d sent apart = once_more d.sent (message_to m v (Change c)) sent
      (λ i. apart (message_to m v (Change c)) i refl)

  asked_sort : (q : Option Request) (d : Draft) (y : Message) → In y (sending_request m q d).sent
      → In y d.sent ⊎ (sort_of y.body ≡ 3)
  asked_sort q d y i = elim (asking_says m q d y i) [ inl j ↦ inl j | inr r ↦ inr (of_request q r) ]
    where
      of_request : (q : Option Request) → IsRequest m y q → sort_of y.body ≡ 3
      of_request _ (AskedFetch f e) = ap (λ (z : Message). sort_of z.body) e
      of_request _ (AskedChange v c e) = ap (λ (z : Message). sort_of z.body) e

  -- # One group after the other
  abbrev hello_test : Site → Bool
  hello_test site = site.greeted && not site.welcome

  abbrev bye_test : Site → Bool
  bye_test site = site.said_bye && not site.has_bye

  abbrev claim_body : Site → Body
  claim_body site = AReclaim (claim_of m site.server)

  abbrev d1 : Draft
  d1 = fold (helloing m) no_draft m.sites

  abbrev d2 : Draft
  d2 = fold (sending_give m) d1 (filesets_given m.gives.gives)

  abbrev d3 : Draft
  d3 = fold (claiming_again m) d2 m.sites

  abbrev d4 : Draft
  d4 = sending_request m m.request d3

  abbrev pub d5 : Draft
  d5 = repeating m no_draft

  pub repeats_only : (y : Message) → In y d5.sent → Repeats m y
  repeats_only y i5 = elim (fold_says (parting_again m) (λ site y. (bye_test site ≡ true)
      × (y ≡ message_to m site.server Bye)) (λ e x y j. where_says m (λ z. Bye) bye_test e x y j) d4 m.sites y i5) [
        | inr r ↦ PartsIt r.0 r.1 r.2.0 r.2.1
        | inl i4 ↦ elim (asking_says m m.request d3 y i4) [
          | inr q ↦ AsksIt q
          | inl i3 ↦ elim (fold_says (claiming_again m) (λ site y. (site.claimed ≡ true)
              × (y ≡ message_to m site.server (claim_body site)))
              (λ e x y j. where_says m claim_body (λ z. z.claimed) e x y j) d2 m.sites y i3) [
                | inr r ↦ ClaimsIt r.0 r.1 r.2.0 r.2.1
                | inl i2 ↦ elim (fold_says (sending_give m) (λ fs y. (z : Message) × (outstanding m.gives fs ≡ Some z)
                    × (y ≡ message_to m (home_at fs) z.body)) (λ e x y j. giving_says m e x y j) d1
                    (filesets_given m.gives.gives) y i2) [
                      | inr r ↦ GivesIt r.0 r.2.0 r.2.1 r.2.2
                      | inl i1 ↦ elim (fold_says (helloing m) (λ site y. (hello_test site ≡ true)
                          × (y ≡ message_to m site.server Hello))
                          (λ e x y j. where_says m (λ z. Hello) hello_test e x y j) no_draft m.sites y i1) [
                            | inr r ↦ Greets r.0 r.1 r.2.0 r.2.1
                            | inl n ↦ elim n [ ]
                          ]
                    ]
              ]
        ]
      ]

  from_4 : (y : Message) → In y d4.sent → In y d5.sent
  from_4 y i = fold_keeps (parting_again m) (λ d x y j. where_keeps m (λ z. Bye) bye_test d x y j) d4 m.sites y i

  from_3 : (y : Message) → In y d3.sent → In y d5.sent
  from_3 y i = from_4 y (asking_keeps m m.request d3 y i)

  from_2 : (y : Message) → In y d2.sent → In y d5.sent
  from_2 y i = from_3 y
      (fold_keeps (claiming_again m) (λ d x y j. where_keeps m claim_body (λ z. z.claimed) d x y j) d2 m.sites y i)

  from_1 : (y : Message) → In y d1.sent → In y d5.sent
  from_1 y i = from_2 y
      (fold_keeps (sending_give m) (λ d x y j. giving_keeps m d x y j) d1 (filesets_given m.gives.gives) y i)

  says_it : (b : Site → Body) (test : Site → Bool) (d : Draft) (site : Site) → In site m.sites → test site ≡ true
      → In (message_to m site.server (b site)) (fold (says_where m b test) d m.sites).sent
  says_it b test d site i t = fold_said (says_where m b test) (λ e x y j. where_keeps m b test e x y j) site
      (message_to m site.server (b site))
      (λ e. subst (λ (t : Bool). In (message_to m site.server (b site))
      (if t then saying m site.server (b site) e else e).sent) (sym t)
      (in_right e.sent (message_to m site.server (b site) ∷ []) (message_to m site.server (b site)) (inl refl)))
      d m.sites i

  pub greets_again : (site : Site) → In site m.sites → (site.greeted && not site.welcome) ≡ true
      → In (message_to m site.server Hello) d5.sent
  greets_again site i t = from_1 (message_to m site.server Hello) (says_it (λ z. Hello) hello_test no_draft site i t)

  pub gives_again : (fs : FilesetId) (z : Message) → In fs (filesets_given m.gives.gives)
      → outstanding m.gives fs ≡ Some z → In (message_to m (home_at fs) z.body) d5.sent
  gives_again fs z i e = from_2 (message_to m (home_at fs) z.body)
      (fold_said (sending_give m) (λ d x y j. giving_keeps m d x y j) fs (message_to m (home_at fs) z.body)
      (λ d. giving_said m d fs z e) d1 (filesets_given m.gives.gives) i)

  pub claims_again : (site : Site) → In site m.sites → site.claimed ≡ true
      → In (message_to m site.server (AReclaim (claim_of m site.server))) d5.sent
  claims_again site i t = from_3 (message_to m site.server (claim_body site))
      (says_it claim_body (λ z. z.claimed) d2 site i t)

  pub parts_again : (site : Site) → In site m.sites → (site.said_bye && not site.has_bye) ≡ true
      → In (message_to m site.server Bye) d5.sent
  parts_again site i t = says_it (λ z. Bye) bye_test d4 site i t

  pub asks_again : (y : Message) → IsRequest m y m.request → In y d5.sent
  asks_again y q = from_4 y (by_kind m.request q)
    where
      by_kind : (r : Option Request) → IsRequest m y r → In y (sending_request m r d3).sent
      by_kind _ (AskedFetch f e) =
          let z : Message = message_to m (home_at f.fid.fileset) (Fetch f) in
          subst (λ (x : Message). In x (d3.sent ++ z ∷ [])) (sym e) (in_right d3.sent (z ∷ []) z (inl refl))
      by_kind _ (AskedChange v c e) =
          let z : Message = message_to m v (Change c) in
          subst (λ (x : Message). In x (d3.sent ++ z ∷ [])) (sym e) (in_right d3.sent (z ∷ []) z (inl refl))

  pub repeats_once : EachOnce (servers_in m.sites) → EachOnce d5.sent
  repeats_once once =
      let s1 : (y : Message) → In y d1.sent → sort_of y.body ≡ 0 =
      λ y i. elim (sites_sort m 0 (λ z. Hello) hello_test (λ z. refl) m.sites no_draft y i) [
        | inl n ↦ elim n [ ]
        | inr e ↦ e
      ] in
      let o1 = sites_once m 0 (λ z. Hello) hello_test (λ z. refl) m.sites once no_draft tt (λ y i. elim i [ ]) in
      let o2 = given_once (filesets_given m.gives.gives) (filesets_once m.gives.gives [] tt) d1 o1
      (λ y i e. let p = sym (s1 y i) ∙ e in omega (arith, p)) in
      let s2 : (y : Message) → In y d2.sent → sort_of y.body ≡ 2 → ⊥ =
      λ y i e. elim (given_sort (filesets_given m.gives.gives) d1 y i) [
        | inl j ↦ let p = sym (s1 y j) ∙ e in omega (arith, p)
        | inr q ↦ let p = sym q ∙ e in omega (arith, p)
      ] in
      let o3 = sites_once m 2 claim_body (λ z. z.claimed) (λ z. refl) m.sites once d2 o2 s2 in
      let s3 : (n : ℕ) → 3 ≡ n ⊎ 4 ≡ n → (y : Message) → In y d3.sent → sort_of y.body ≡ n → ⊥ =
      λ n k y i e. elim (sites_sort m 2 claim_body (λ z. z.claimed) (λ z. refl) m.sites d2 y i) [
        | inr q ↦ let p = sym q ∙ e in elim k [ inl a ↦ omega (arith, p, a) | inr a ↦ omega (arith, p, a) ]
        | inl j ↦ elim (given_sort (filesets_given m.gives.gives) d1 y j) [
          | inl l ↦ let p = sym (s1 y l) ∙ e in elim k [ inl a ↦ omega (arith, p, a) | inr a ↦ omega (arith, p, a) ]
          | inr q ↦ let p = sym q ∙ e in elim k [ inl a ↦ omega (arith, p, a) | inr a ↦ omega (arith, p, a) ]
        ]
      ] in
      let o4 = asked_once m.request d3 o3 (s3 3 (inl refl)) in
      sites_once m 4 (λ z. Bye) bye_test (λ z. refl) m.sites once d4 o4
      (λ y i e. elim (asked_sort m.request d3 y i) [
        | inl j ↦ s3 4 (inr refl) y j e
        | inr q ↦ let p = sym q ∙ e in omega (arith, p)
      ])
