-- In every run the labels in use in the tree are those of the hosts, and those that a give-back on its way ends.
use Rattle.run_rules.specs.Doings.{Doing, Granted, HasGoneAway, HasReclaimed, IsApplied, SentTo, TakesBye, TakesOf}
use Rattle.run_rules.specs.Doings.{after_step, doings_of, epoch}
use Rattle.run_rules.specs.Doings.Doing.{Took}
use Rattle.run_rules.specs.HostTokens.{HostTokens}
use Rattle.run_rules.specs.Messages.{ComesIn, HasKeptToken, HasSaid, Said, home}
use Rattle.run_rules.specs.Past.{EachInTurn, In, Once, appended}
use Rattle.run_rules.specs.Steps.{steps_of_host}
use Rattle.run_rules.specs.Tokens.{EndsUse, EverHeld, GivesUse, HasEndedUse, IsKnown, LabelInUse, LeavesHost, Made}
use Rattle.run_rules.specs.Tokens.{Owns, TokenInUse, number_of}
use Rattle.run_tokens.specs.TokenLaws.{Applies, HasLeftHost, IsTokenRun, StepMay}
use Rattle.run_tokens.proofs.Words.{acts_after, own_after}
use Rattle.std.proofs.Common.{◌≡◌, ℕ, ◌<◌, ◌≤◌, ◌⊎◌, List, [], ◌∷◌, inl, inr, sym, ◌∙◌, ap, subst}
use Rattle.std.proofs.Common.{refl, arith}
use Rattle.std.proofs.lemmas.Bool.{cases_lt}
use Rattle.base_types.specs.declared.ids.Fid.{Fid}
use Rattle.base_types.specs.declared.ids.FilesetId.{FilesetId}
use Rattle.base_types.specs.declared.ids.HostId.{HostId}
use Rattle.base_types.specs.declared.ids.Node.{Node}
use Rattle.base_types.specs.declared.ids.Node.TheVariants.{Host, Server}
use Rattle.base_types.specs.declared.ids.ServerId.{ServerId}
use Rattle.message_types.specs.declared.giving.Give.{Give}
use Rattle.message_types.specs.declared.message.Body.{Body}
use Rattle.message_types.specs.declared.message.Body.TheVariants.{Bye, GiveBack, Kept}
use Rattle.token_types.specs.declared.token.Token.{Token}
use Rattle.token_types.specs.declared.token.TokenId.{TokenId}
use Rattle.run_tokens.specs.Unmoved.{MovesNone}
use Rattle.run_parts.proofs.Served.{Next, after_doings, each_next}
use Rattle.run_parts.specs.Doings.{doings}
use Rattle.run_parts.proofs.Arriving.{unreturned}
use Rattle.run_parts.proofs.Words.{host_split, server_split, taken_is}
use Rattle.run_parts.proofs.LabelWords.{HadKept, HasBegun, is_named, owns_ever, pinned_granted, pinned_kept, said_kept}
use Rattle.run_parts.specs.Uses.{Frees, FreesAny, HostUses, Locked, LockedAfter, LockedGranted, LocksApart}
use Rattle.run_parts.specs.Uses.{PinnedLocked, StepUses, UsesRun, issuer_acts}
use Rattle.run_tokens.proofs.Invariant.{Alone, Link}
use Rattle.run_tokens.proofs.Law.{AtServer, Whole, always}
use Rattle.run_tokens.proofs.Owed.{Owed}
use Rattle.run_tokens.proofs.Words.{made_at, made_left, of_one}
use Rattle.run_rules.specs.declared.step.Labelled.{Labelled}
use Rattle.run_rules.specs.declared.step.Step.{Step}

-- the give-back was made while the label was in use
abbrev pub Given : List Step → Labelled → Give → Type 0
Given A u g = Once (λ before s. LabelInUse before u × In g s.made) A

-- of a host alone
pub record Labels (A : List Step) : Type 0 where
  pub use_owned : (u : Labelled) → LabelInUse A u → Owns A u.token
  -- with its Bye all of these are known
  pub bye_known : (u : Labelled) (g : Give) (v : ServerId) → Given A u g → HasSaid A v Bye → IsKnown A g
  pub kept_use : (i : TokenId) → HasKeptToken A i → (TokenInUse A i → ⊥) → (((g : Give) × Made A g × In i g.ids) → ⊥) → ⊥
  -- a token that was kept is owned, or has left; it isn't taken again
  pub kept_own : (i : TokenId) → HadKept A i → (HasLeftHost A i → ⊥) → ((t : Token) → Owns A t → t.id ≡ i → ⊥) → ⊥
  pub kept_since : (i : TokenId) → HadKept A i → HasKeptToken A i

-- a give-back of the host ends the use, and isn't applied
pub record Ending (A : List Step) (v : ServerId) (S : List Doing) (h : HostId) (u : Labelled) (g : Give) : Type 0 where
  pub made : Made A g
  pub given : Given A u g
  pub gives : GivesUse g u
  pub not_applied : IsApplied v S h (number_of g) → ⊥

-- of a host, the tree and a server
pub record Uses (h : HostId) (v : ServerId) (A : List Step) (S : List Doing) (lk : Labelled → Type 0) : Type 0 where
  pub locked_is : (u : Labelled) → u.token.id.server ≡ v → lk u → (HasGoneAway S h → ⊥)
      → LabelInUse A u ⊎ ((g : Give) × Ending A v S h u g × EverHeld A u.token)
  pub use_locked : (u : Labelled) → u.token.id.server ≡ v → LabelInUse A u → (HasGoneAway S h → ⊥) → lk u
  pub kept_locked : (g : Give) (i : TokenId) → i.server ≡ v → Made A g → In i g.ids → HasKeptToken A i
      → (IsApplied v S h (number_of g) → ⊥) → (HasGoneAway S h → ⊥)
      → ((u : Labelled) → u.token.id ≡ i → GivesUse g u → lk u → ⊥) → ⊥
  pub locked_begun : (u : Labelled) → u.token.id.server ≡ v → lk u → HasBegun A u
  -- a host that has gone away has none
  pub none_away : (u : Labelled) → u.token.id.server ≡ v → lk u → HasGoneAway S h → ⊥

given_made : (A : List Step) (u : Labelled) (g : Give) → Given A u g → Made A g
given_made [] u g e = elim e [ ]
given_made (s ∷ A) u g (inl x) = inl x.1
given_made (s ∷ A) u g (inr e) = inr (given_made A u g e)

pub given_ended : (A : List Step) (u : Labelled) (g : Give) → Given A u g → GivesUse g u → HasEndedUse A g u
given_ended [] u g e gives = elim e [ ]
given_ended (s ∷ A) u g (inl x) gives = inl (x.1, x.0, gives)
given_ended (s ∷ A) u g (inr e) gives = inr (given_ended A u g e gives)

labels_step : (A : List Step) (s : Step) → Alone A → HostTokens A s → ((t : Token) → In t s.taken → HasLeftHost A t.id → ⊥)
    → Labels A → HostUses A s → Labels (s ∷ A)
labels_step A s alone may fresh old rules =
    record { use_owned = owned; bye_known = known; kept_use = kept; kept_own = own_kept; kept_since = since }
  where
    since : (i : TokenId) → HadKept (s ∷ A) i → HasKeptToken (s ∷ A) i
    since i (inl q) = inl q
    since i (inr q) = inr (
      old.kept_since i q,
      λ x. old.kept_own i q (λ l. fresh x.0 x.1 (subst (HasLeftHost A) (sym x.2) l))
          (λ t o e. (may.takes x.0 x.1).4 (t, alone.holds may.live t o, e ∙ sym x.2)),
    )

    known : (u : Labelled) (g : Give) (v : ServerId) → Given (s ∷ A) u g → HasSaid (s ∷ A) v Bye → IsKnown (s ∷ A) g
    known u g v given (e, n, inl sends) = may.bye_gives v e n g sends (given_made (s ∷ A) u g given)
    known u g v (inl x) (e, n, inr said) = absurd (alone.bye_held u.token v (e, n, said) (old.use_owned u x.0))
    known u g v (inr given) (e, n, inr said) = inr (old.bye_known u g v given (e, n, said))

    owned : (u : Labelled) → LabelInUse (s ∷ A) u → Owns (s ∷ A) u.token
    owned u (inl m) = rules.begins u m
    owned u (inr x) = (
      inr (old.use_owned u x.0),
      λ q. elim q [
        | inl m ↦ x.2 m.0 m.1 (rules.stay.makes_ends m.0 u m.1 x.0 m.2)
        | inr r ↦ rules.stay.returns_idle u.token.id r (u, x.0, refl)
      ],
    )

    own_kept : (i : TokenId) → HadKept (s ∷ A) i → (HasLeftHost (s ∷ A) i → ⊥)
        → ((t : Token) → Owns (s ∷ A) t → t.id ≡ i → ⊥) → ⊥
    own_kept i (inl q) left none = let u = rules.stay.keeps i q in none u.0.token (owned u.0 u.1) u.2
    own_kept i (inr q) left none =
        old.kept_own i q (λ l. left (inr l))
        (λ t o e. none t (inr o, λ l. left (inl (subst (LeavesHost s) e l))) e)

    kept : (i : TokenId) → HasKeptToken (s ∷ A) i → (TokenInUse (s ∷ A) i → ⊥)
        → (((g : Give) × Made (s ∷ A) g × In i g.ids) → ⊥) → ⊥
    kept i (inl q) never none = never (rules.stay.keeps i q)
    kept i (inr (q, _)) never none =
        old.kept_use i q
        (λ x. never (
          x.0,
          inr (
            x.1,
            (λ e. rules.ends x.0 e x.1 (subst (HasKeptToken A) (sym x.2) q) (λ y. never (subst (TokenInUse (s ∷ A)) x.2 y))),
            λ g m k. none (g, inl m, subst (λ j. In j g.ids) x.2 k.3),
          ),
          x.2,
        ))
        (λ g. none (g.0, inr g.1, g.2))

-- the same for an equal table
pub same_uses : (h : HostId) (v : ServerId) (A : List Step) (S : List Doing) (old new : Labelled → Type 0)
    → ((u : Labelled) → u.token.id.server ≡ v → old u → new u)
    → ((u : Labelled) → u.token.id.server ≡ v → new u → old u) → Uses h v A S old → Uses h v A S new
same_uses h v A S old new to back x = record {
  locked_is = λ u at l live. x.locked_is u at (back u at l) live;
  use_locked = λ u at l live. to u at (x.use_locked u at l live);
  kept_locked = λ g i at m n k not live never.
      x.kept_locked g i at m n k not live
      (λ u same gives l. never u same gives (to u (ap (λ (j : TokenId). j.server) same ∙ at) l));
  locked_begun = λ u at l. x.locked_begun u at (back u at l);
  none_away = λ u at l. x.none_away u at (back u at l);
}

module _ (h : HostId) (v : ServerId) (A : List Step) (S : List Doing) (s : Step) (lk : Labelled → Type 0)
    (link : Link h v A S) (next : Link h v (s ∷ A) S) (labels : Labels A) (labels' : Labels (s ∷ A))
    (alone : Alone (s ∷ A)) (may : HostTokens A s) (rules : HostUses A s) (old : Uses h v A S lk) where
  not_yet : (g : Give) → In g s.made → IsApplied v S h (number_of g) → ⊥
  not_yet g m a =
      let k = link.applied_made (number_of g) a in
      let new : k.0.number < g.number = may.makes_new g k.0 m k.1 k.2 in
      let le : g.number ≤ k.0.number = k.3 in
      absurd (omega (arith, new, le))

  abbrev now : Labelled → Type 0
  now u = In u s.begun ⊎ (lk u × (EndsUse s u → ⊥))

  locked_is' : (u : Labelled) → u.token.id.server ≡ v → now u → (HasGoneAway S h → ⊥)
      → LabelInUse (s ∷ A) u ⊎ ((g : Give) × Ending (s ∷ A) v S h u g × EverHeld (s ∷ A) u.token)
  locked_is' u at (inl m) live = inl (inl m)
  locked_is' u at (inr x) live =
      elim (old.locked_is u at x.0 live) [
        | inl usage ↦ elim (is_named u.token.id s.made) [
          | inl g ↦ inr (
            g.0,
            record {
              made = inl g.1;
              given = inl (usage, g.1);
              gives = rules.stay.makes_ends g.0 u g.1 usage g.2;
              not_applied = not_yet g.0 g.1;
            },
            inr (owns_ever A u.token (labels.use_owned u usage)),
          )
          | inr none ↦ inl (inr (usage, x.1, λ g m k. none g m k.3))
        ]
        | inr g ↦ inr (
          g.0,
          record { made = inr g.1.made; given = inr g.1.given; gives = g.1.gives; not_applied = g.1.not_applied },
          inr g.2,
        )
      ]

  use_locked' : (u : Labelled) → u.token.id.server ≡ v → LabelInUse (s ∷ A) u → (HasGoneAway S h → ⊥) → now u
  use_locked' u at (inl m) live = inl m
  use_locked' u at (inr y) live = inr (old.use_locked u at y.0 live, y.1)

  kept_locked' : (g : Give) (i : TokenId) → i.server ≡ v → Made (s ∷ A) g → In i g.ids → HasKeptToken (s ∷ A) i
      → (IsApplied v S h (number_of g) → ⊥) → (HasGoneAway S h → ⊥)
      → ((u : Labelled) → u.token.id ≡ i → GivesUse g u → now u → ⊥) → ⊥
  kept_locked' g i at m n (inl q) not live never =
      let u = rules.stay.keeps i q in
      let here : u.0.token.id.server ≡ v = ap (λ (j : TokenId). j.server) u.2 ∙ at in
      (next.held u.0.token here (labels'.use_owned u.0 u.1)).stays
      (made_left (s ∷ A) g u.0.token.id m (subst (λ j. In j g.ids) (sym u.2) n))
  kept_locked' g i at (inl m) n (inr (q, _)) not live never =
      labels.kept_use i q
      (λ u.
      let gives = rules.stay.makes_ends g u.0 m u.1 (subst (λ j. In j g.ids) (sym u.2) n) in
      let here : u.0.token.id.server ≡ v = ap (λ (j : TokenId). j.server) u.2 ∙ at in
      never u.0 u.2 gives (inr (old.use_locked u.0 here u.1 live, λ e. rules.ends_apart u.0 g e m gives)))
      (λ k.
      let one : g ≡ k.0 = next.made_once g k.0 i at (inl m) (inr k.1) n k.2 in
      let lt : k.0.number < g.number =
      may.makes_new g k.0 m k.1 (ap (λ (y : Give). y.fid.fileset) (sym one)) in
      let same : g.number ≡ k.0.number = ap (λ (y : Give). y.number) one in
      absurd (omega (arith, lt, same)))
  kept_locked' g i at (inr m) n (inr (q, _)) not live never =
      old.kept_locked g i at m n q not live
      (λ u same gives l. never u same gives (inr (
        l,
        λ e. rules.ends_known u g e (ended u (ap (λ (j : TokenId). j.server) same ∙ at) gives l)
            (λ k. not (next.known (number_of g) (next.made_id g i (inr m) n at) k)),
      )))
    where
      ended : (u : Labelled) → u.token.id.server ≡ v → GivesUse g u → lk u → HasEndedUse A g u
      ended u here gives l =
          elim (old.locked_is u here l live) [
            | inl usage ↦ absurd ((link.held u.token here (labels.use_owned u usage)).stays
                (made_left A g u.token.id m gives.3))
            | inr k ↦ (
                let one = link.made_once k.0 g u.token.id here k.1.made m k.1.gives.3 gives.3 in
                given_ended A u g (subst (Given A u) one k.1.given) gives
                )
          ]

  locked_begun' : (u : Labelled) → u.token.id.server ≡ v → now u → HasBegun (s ∷ A) u
  locked_begun' u at (inl m) = inl m
  locked_begun' u at (inr x) = inr (old.locked_begun u at x.0)

  none_away' : (u : Labelled) → u.token.id.server ≡ v → now u → HasGoneAway S h → ⊥
  none_away' u at (inl m) away =
      elim (link.away away) [
        | inl stopped ↦ may.live stopped
        | inr (e, n, said) ↦ alone.bye_held u.token v (e, n, inr said) (labels'.use_owned u (inl m))
      ]
  none_away' u at (inr x) away = old.none_away u at x.0 away

  uses_step : Uses h v (s ∷ A) S now
  uses_step = record {
    locked_is = locked_is';
    use_locked = use_locked';
    kept_locked = kept_locked';
    locked_begun = locked_begun';
    none_away = none_away';
  }

-- a server's doing, a restart too
module _ (h : HostId) (v : ServerId) (A : List Step) (S : List Doing) (a : Doing) (alone : Alone A) (link : Link h v A S)
    (labels : Labels A) (heard : (e n : ℕ) (b : Body) → a ≡ Took h e n b → Said A v e n b) (lk : Labelled → Type 0)
    (old : Uses h v A S lk) where
  said : (fs : FilesetId) (g : Give) → TakesOf v S a h fs (GiveBack g) → (n : ℕ) × Said A v (epoch S) n (GiveBack g)
  said fs g t = let k = taken_is v S a h fs (GiveBack g) t in (k.0, heard (epoch S) k.0 (GiveBack g) k.1)

  made : (fs : FilesetId) (g : Give) → TakesOf v S a h fs (GiveBack g) → Made A g
  made fs g t = let k = said fs g t in (alone.said_made g v (epoch S) k.0 k.1).0

  applied_cases : (g : Give) → home g.fid.fileset ≡ v → Made A g → IsApplied v (a ∷ S) h (number_of g)
      → IsApplied v S h (number_of g) ⊎ TakesOf v S a h g.fid.fileset (GiveBack g)
  applied_cases g at m (inr r) = inl r
  applied_cases g at m (inl (k, t, same, le)) =
      let q = said g.fid.fileset k t in
      elim (cases_lt g.number k.number) [
        | inl lt ↦ inl (link.known (number_of g) at (alone.said_first k g v (epoch S) q.0 q.1 m (sym same) lt))
        | inr ge ↦ (
            let one : k ≡ g = alone.numbers k g (made g.fid.fileset k t) m same (omega arith) in
            inr (subst (λ j. TakesOf v S a h g.fid.fileset (GiveBack j)) one t)
            )
      ]

  abbrev left : Labelled → Type 0
  left u = lk u × (u.token.id.server ≡ v → Frees v S a h u → ⊥)

  -- a give-back that isn't applied now isn't so afterwards
  still : (u : Labelled) (g : Give) → u.token.id.server ≡ v → (Frees v S a h u → ⊥) → Ending A v S h u g
      → Ending A v (a ∷ S) h u g
  still u g at none e = record {
    made = e.made;
    given = e.given;
    gives = e.gives;
    not_applied = λ r. elim (applied_cases g (link.made_id g u.token.id e.made e.gives.3 at) e.made r) [
      | inl q ↦ e.not_applied q
      | inr t ↦ none (inr (g, (t, e.not_applied), e.gives))
    ];
  }

  freed : (u : Labelled) (g : Give) → u.token.id.server ≡ v → Made A g → GivesUse g u
      → (IsApplied v (a ∷ S) h (number_of g) → ⊥) → ((y : Give) × Applies v S a h y × GivesUse y u) → ⊥
  freed u g at m gives not y =
      let one : g ≡ y.0 =
      link.made_once g y.0 u.token.id at m (made y.0.fid.fileset y.0 y.1.0) gives.3 y.2.3 in
      not (inl (
        g,
        subst (λ (j : Give). TakesOf v S a h j.fid.fileset (GiveBack j)) (sym one) y.1.0,
        refl,
        omega arith,
      ))

  used_free : (u : Labelled) → u.token.id.server ≡ v → LabelInUse A u
      → ((y : Give) × Applies v S a h y × GivesUse y u) → ⊥
  used_free u at usage y =
      (link.held u.token at (labels.use_owned u usage)).stays
      (made_left A y.0 u.token.id (made y.0.fid.fileset y.0 y.1.0) y.2.3)

  locked_is'' : (u : Labelled) → u.token.id.server ≡ v → left u → (HasGoneAway (a ∷ S) h → ⊥)
      → LabelInUse A u ⊎ ((g : Give) × Ending A v (a ∷ S) h u g × EverHeld A u.token)
  locked_is'' u at x live =
      elim (old.locked_is u at x.0 (λ w. live (inr w))) [
        | inl usage ↦ inl usage
        | inr g ↦ inr (g.0, still u g.0 at (x.1 at) g.1, g.2)
      ]

  use_locked'' : (u : Labelled) → u.token.id.server ≡ v → LabelInUse A u → (HasGoneAway (a ∷ S) h → ⊥) → left u
  use_locked'' u at usage live = (
    old.use_locked u at usage (λ w. live (inr w)),
    λ _ f. elim f [ inl e ↦ live (inl (inl e)) | inr g ↦ used_free u at usage g ],
  )

  kept_locked'' : (g : Give) (i : TokenId) → i.server ≡ v → Made A g → In i g.ids → HasKeptToken A i
      → (IsApplied v (a ∷ S) h (number_of g) → ⊥) → (HasGoneAway (a ∷ S) h → ⊥)
      → ((u : Labelled) → u.token.id ≡ i → GivesUse g u → left u → ⊥) → ⊥
  kept_locked'' g i at m n k not live never =
      old.kept_locked g i at m n k (λ r. not (inr r)) (λ w. live (inr w))
      (λ u same gives l. never u same gives (
        l,
        λ here f. elim f [ inl e ↦ live (inl (inl e)) | inr y ↦ freed u g here m gives not y ],
      ))

  -- a host ends with nothing in use, and with its give-backs known
  ends_free : (u : Labelled) → u.token.id.server ≡ v → lk u → TakesBye S a h → ⊥
  ends_free u at l ends =
      let bye : HasSaid A v Bye = (epoch S, ends.0.0, heard (epoch S) ends.0.0 Bye ends.0.1) in
      elim (old.locked_is u at l (old.none_away u at l)) [
        | inl usage ↦ alone.bye_held u.token v bye (labels.use_owned u usage)
        | inr g ↦ g.1.not_applied (link.known (number_of g.0) (link.made_id g.0 u.token.id g.1.made g.1.gives.3 at)
            (labels.bye_known u g.0 v g.1.given bye))
      ]

  none_away'' : (u : Labelled) → u.token.id.server ≡ v → left u → HasGoneAway (a ∷ S) h → ⊥
  none_away'' u at x (inr away) = old.none_away u at x.0 away
  none_away'' u at x (inl (inl down)) = x.1 at (inl down)
  none_away'' u at x (inl (inr ends)) = ends_free u at x.0 ends

  uses_act : Uses h v A (a ∷ S) left
  uses_act = record {
    locked_is = locked_is'';
    use_locked = use_locked'';
    kept_locked = kept_locked'';
    locked_begun = λ u at x. old.locked_begun u at x.0;
    none_away = none_away'';
  }

-- a server's doings, one after the other
pub serve : (own_of : HostId → List Step) (alone : (h : HostId) → Alone (own_of h)) (h : HostId) (v : ServerId)
    → Labels (own_of h) → (more S : List Doing) (lk : Labelled → Type 0) → AtServer own_of v S
    → EachInTurn (Next own_of v) more S → Uses h v (own_of h) S lk
    → Uses h v (own_of h) (appended more S) (λ u. lk u × (u.token.id.server ≡ v → FreesAny v more S h u → ⊥))
serve own_of alone h v labels [] S lk at may old =
    same_uses h v (own_of h) S lk (λ u. lk u × (u.token.id.server ≡ v → ⊥ → ⊥)) (λ u e x. (x, λ _ n. n))
    (λ u e x. x.0) old
serve own_of alone h v labels (a ∷ more) S lk at may old =
    let here = uses_act h v (own_of h) S a (alone h) (at.link h) labels (may.0.heard h) lk old in
    let rest = serve own_of alone h v labels more (a ∷ S)
    (λ u. lk u × (u.token.id.server ≡ v → Frees v S a h u → ⊥)) (may.0.next at) may.1 here in
    same_uses h v (own_of h) (appended more (a ∷ S))
    (λ u. (lk u × (u.token.id.server ≡ v → Frees v S a h u → ⊥))
    × (u.token.id.server ≡ v → FreesAny v more (a ∷ S) h u → ⊥))
    (λ u. lk u × (u.token.id.server ≡ v → FreesAny v (a ∷ more) S h u → ⊥))
    (λ u _ x. (x.0.0, λ e f. elim f [ inl y ↦ x.0.1 e y | inr y ↦ x.1 e y ]))
    (λ u _ x. ((x.0, λ e y. x.1 e (inl y)), λ e y. x.1 e (inr y))) rest

module _ (firsts : ServerId → ℕ) where
  -- what is so of labels after a run
  pub record AllUses (past : List Step) : Type 0 where
    pub labels : (h : HostId) → Labels (steps_of_host h past)
    pub uses : (h : HostId) (v : ServerId) → Uses h v (steps_of_host h past) (doings_of (firsts v) v past) (Locked firsts past h)

  abbrev World : Node → List Step → Step → Type 0
  World n past s = Whole (λ h. own_after h n s (steps_of_host h past)) (λ v. acts_after v n s (doings_of (firsts v) v past))

  abbrev LockedNow : Node → List Step → Step → HostId → Labelled → Type 0
  LockedNow n past s h u = LockedAfter firsts n s past (Locked firsts past h u) h u

  abbrev LabelsAfter : Node → List Step → Step → Type 0
  LabelsAfter n past s = (h : HostId) → Labels (own_after h n s (steps_of_host h past))

  abbrev UsesAfter : Node → List Step → Step → Type 0
  UsesAfter n past s =
      (h : HostId) (v : ServerId)
      → Uses h v (own_after h n s (steps_of_host h past)) (acts_after v n s (doings_of (firsts v) v past)) (LockedNow n past s h)

  -- a host's step
  module _ (k : HostId) (past : List Step) (s : Step) (whole : Whole (λ h. steps_of_host h past) (λ v. doings_of (firsts v) v past))
      (next : World (Host k) past s) (may : StepMay firsts (Host k) past s) (rules : HostUses (steps_of_host k past) s)
      (old : AllUses past) where
    mine : (X : List Step → Type 0) → X (own_after k (Host k) s (steps_of_host k past)) → X (s ∷ steps_of_host k past)
    mine X x =
        subst X
        (host_split (λ L. L ≡ s ∷ steps_of_host k past) k k (s ∷ steps_of_host k past) (steps_of_host k past) (λ _. refl)
        (λ two. absurd (two refl))) x

    came : (v : ServerId) (e n : ℕ) (b : Body) → ComesIn s v e n b → SentTo (doings_of (firsts v) v past) k e n b
    came v e n b (m, cause, at, epoch_is, moves, body) =
        subst (λ (y : ServerId × ℕ × ℕ × Body). SentTo (doings_of (firsts y.0) y.0 past) k y.1 y.2 y.3)
        (λ i. (at i, epoch_is i, moves i, body i)) (may.1 m cause).2

    fresh : (t : Token) → In t s.taken → HasLeftHost (steps_of_host k past) t.id → ⊥
    fresh t m =
        let w = may.0.takes t m in
        unreturned k (steps_of_host k past) (λ v. doings_of (firsts v) v past) s (λ v. (whole.at v).served)
        (λ v. (whole.at v).link k) came w.0 t w.1 w.2

    labels_own : Labels (s ∷ steps_of_host k past)
    labels_own = labels_step (steps_of_host k past) s (whole.alone k) may.0 fresh (old.labels k) rules

    uses_own : (v : ServerId) → Uses k v (s ∷ steps_of_host k past) (doings_of (firsts v) v past) (LockedNow (Host k) past s k)
    uses_own v =
        same_uses k v (s ∷ steps_of_host k past) (doings_of (firsts v) v past)
        (λ u. In u s.begun ⊎ (Locked firsts past k u × (EndsUse s u → ⊥))) (LockedNow (Host k) past s k)
        (λ u _ y. elim y [ inl m ↦ inl (refl, m) | inr q ↦ inr (q.0, λ _. q.1) ])
        (λ u _ y. elim y [ inl m ↦ inl m.1 | inr q ↦ inr (q.0, q.1 refl) ])
        (uses_step k v (steps_of_host k past) (doings_of (firsts v) v past) s (Locked firsts past k) ((whole.at v).link k)
        (mine (λ L. Link k v L (doings_of (firsts v) v past)) ((next.at v).link k)) (old.labels k) labels_own
        (mine Alone (next.alone k)) may.0 rules (old.uses k v))

    host_labels : LabelsAfter (Host k) past s
    host_labels h =
        host_split Labels k h (s ∷ steps_of_host h past) (steps_of_host h past)
        (λ e. subst (λ j. Labels (s ∷ steps_of_host j past)) e labels_own) (λ _. old.labels h)

    host_uses : UsesAfter (Host k) past s
    host_uses h v =
        host_split (λ L. Uses h v L (doings_of (firsts v) v past) (LockedNow (Host k) past s h)) k h (s ∷ steps_of_host h past)
        (steps_of_host h past)
        (λ e. subst (λ j. Uses j v (s ∷ steps_of_host j past) (doings_of (firsts v) v past) (LockedNow (Host k) past s j)) e
        (uses_own v))
        (λ two. same_uses h v (steps_of_host h past) (doings_of (firsts v) v past) (Locked firsts past h)
        (LockedNow (Host k) past s h) (λ u _ y. inr (y, λ e. absurd (two e)))
        (λ u _ y. elim y [ inl m ↦ absurd (two m.0) | inr q ↦ q.0 ]) (old.uses h v))

  -- a server's step
  module _ (k : ServerId) (past : List Step) (s : Step)
      (whole : Whole (λ h. steps_of_host h past) (λ v. doings_of (firsts v) v past)) (may : StepMay firsts (Server k) past s)
      (none : MovesNone s) (old : AllUses past) where
    at_home : (h : HostId)
        → Uses h k (steps_of_host h past) (after_step s (doings_of (firsts k) k past)) (LockedNow (Server k) past s h)
    at_home h =
        subst (λ S. Uses h k (steps_of_host h past) S (LockedNow (Server k) past s h))
        (after_doings s (doings_of (firsts k) k past))
        (serve (λ j. steps_of_host j past) whole.alone h k (old.labels h) (doings s (doings_of (firsts k) k past))
        (doings_of (firsts k) k past) (Locked firsts past h) (whole.at k)
        (each_next (λ j. steps_of_host j past) whole.alone k s (doings_of (firsts k) k past) none may.0 (λ m e. (may.1 m e).2))
        (old.uses h k))

    server_uses : UsesAfter (Server k) past s
    server_uses h v =
        server_split (λ S. Uses h v (steps_of_host h past) S (LockedNow (Server k) past s h)) k v
        (after_step s (doings_of (firsts v) v past)) (doings_of (firsts v) v past)
        (λ e. subst
        (λ w. Uses h w (steps_of_host h past) (after_step s (doings_of (firsts w) w past)) (LockedNow (Server k) past s h)) e
        (at_home h))
        (λ two. same_uses h v (steps_of_host h past) (doings_of (firsts v) v past) (Locked firsts past h)
        (LockedNow (Server k) past s h) (λ u at y. (y, λ e. absurd (two (sym e ∙ at)))) (λ u at y. y.0)
        (old.uses h v))

  step : (n : Node) (past : List Step) (s : Step) → Whole (λ h. steps_of_host h past) (λ v. doings_of (firsts v) v past)
      → World n past s → StepMay firsts n past s → MovesNone s → StepUses n past s → AllUses past
      → LabelsAfter n past s × UsesAfter n past s
  step (Host k) past s whole next may none rules old =
      (host_labels k past s whole next may rules old, host_uses k past s whole next may rules old)
  step (Server k) past s whole next may none rules old = (old.labels, server_uses k past s whole may none old)

  pub all_uses : (past : List Step) → IsTokenRun firsts past → UsesRun past → AllUses past
  all_uses [] run rules = record {
    labels = λ h. record {
      use_owned = λ u e. elim e [ ];
      bye_known = λ u g v e. elim e [ ];
      kept_use = λ i e. elim e [ ];
      kept_own = λ i e. elim e [ ];
      kept_since = λ i e. elim e [ ];
    };
    uses = λ h v. record {
      locked_is = λ u at e. elim e [ ];
      use_locked = λ u at e. elim e [ ];
      kept_locked = λ g i at m. elim m [ ];
      locked_begun = λ u at e. elim e [ ];
      none_away = λ u at e. elim e [ ];
    };
  }
  all_uses (s ∷ past) run rules =
      let x = step s.node past s (always firsts past run.0) (always firsts (s ∷ past) run) run.1 run.3 rules.1
      (all_uses past run.0 rules.0) in
      record { labels = x.0; uses = x.1 }

  module _ (past : List Step) (run : IsTokenRun firsts past) (rules : UsesRun past) where
    x : AllUses past
    x = all_uses past run rules

    w : Whole (λ h. steps_of_host h past) (λ v. doings_of (firsts v) v past)
    w = always firsts past run

    -- a label in use in the tree has a token that is owed
    pub locked_owed : (h : HostId) (u : Labelled) → Locked firsts past h u
        → (HasGoneAway (issuer_acts firsts past u.token) h → ⊥)
        → Owed u.token.id.server (issuer_acts firsts past u.token) u.token × (u.token.host ≡ h)
    locked_owed h u l live =
        elim ((x.uses h u.token.id.server).locked_is u refl l live) [
          | inl usage ↦ (
              let good = ((w.at u.token.id.server).link h).held u.token refl ((x.labels h).use_owned u usage) in
              (good.owed live, good.host)
              )
          | inr g ↦ (
              let at = w.at u.token.id.server in
              let y = (at.link h).given g.0 u.token.id refl g.1.made g.1.gives.3 g.1.not_applied live in
              let i = at.served.owed_issued y.token y.owed in
              let e = (at.link h).ever u.token refl g.2 in
              let one : y.token ≡ u.token = (at.served.unique y.token u.token i.0 e.0 i.1 e.1 y.same).0 in
              (subst (Owed u.token.id.server (issuer_acts firsts past u.token)) one y.owed, e.2)
              )
        ]

    pub locked_granted : LockedGranted firsts past
    locked_granted h u l live reclaimed =
        let o = locked_owed h u l live in
        (w.at u.token.id.server).served.owed_granted u.token o.0
        (subst (HasReclaimed (issuer_acts firsts past u.token)) (sym o.1) reclaimed)

    placed : (v : ServerId) (t : Token) → Owed v (doings_of (firsts v) v past) t → home t.fid.fileset ≡ v
    placed v t o =
        let i = (w.at v).served.owed_issued t o in
        made_at v (doings_of (firsts v) v past) t.fid.fileset i.0.moves (w.at v).served.put ((w.at v).served.at t i.0 i.1)

    pub locks_apart : LocksApart firsts past
    locks_apart h k t u a b live_h live_k c =
        let p = (locked_owed h t a live_h).0 in
        let q = (locked_owed k u b live_k).0 in
        let one : u.token.id.server ≡ t.token.id.server =
        sym (placed u.token.id.server u.token q)
        ∙ (ap (λ (f : Fid). home f.fileset) (sym (of_one t.token u.token c))
        ∙ placed t.token.id.server t.token p) in
        (w.at t.token.id.server).served.apart t.token u.token p
        (subst (λ v. Owed v (doings_of (firsts v) v past) u.token) one q) c

    pub pinned_locked : PinnedLocked firsts past
    pinned_locked t p never =
        (x.labels t.host).kept_use t.id kept
        (λ u. never u.0 u.2
        ((x.uses t.host t.id.server).use_locked u.0 (ap (λ (j : TokenId). j.server) u.2) u.1 live))
        (λ g. (x.uses t.host t.id.server).kept_locked g.0 t.id refl g.1 g.2 kept
        (λ a. link.taken g.0 t g.1 g.2 refl a granted) live (λ u same gives l. never u same l))
      where
        link : Link t.host t.id.server (steps_of_host t.host past) (issuer_acts firsts past t)
        link = (w.at t.id.server).link t.host

        granted : Granted t.id.server (issuer_acts firsts past t) t
        granted = pinned_granted t.id.server (issuer_acts firsts past t) t p

        live : HasGoneAway (issuer_acts firsts past t) t.host → ⊥
        live = ((w.at t.id.server).served.owed_live t (link.granted_owed t refl granted)).1

        kept : HasKeptToken (steps_of_host t.host past) t.id
        kept =
            let k = pinned_kept t.id.server (issuer_acts firsts past t) t p in
            let d = link.took_ever k.named.fid.fileset (Kept k.named) k.took in
            (x.labels t.host).kept_since t.id
            (said_kept (steps_of_host t.host past) t.id.server d.0 d.1 k.named t.id d.2 k.names)
