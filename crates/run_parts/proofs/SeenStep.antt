-- A host's step keeps what is so of the host alone.
use Rattle.message_types.specs.declared.message.Body.TheVariants.{Bye}
use Rattle.std.proofs.Common.{◌≡◌, ℕ, ◌||◌, not, true, false, Bool, Some, is_some, List, ◌∷◌, inl, inr, sym}
use Rattle.std.proofs.Common.{subst}
use Rattle.std.proofs.lemmas.Bool.{and_parts, or_cases}
use Rattle.base_types.specs.declared.ids.ServerId.{ServerId}
use Rattle.base_types.specs.declared.ids.Fid.{Fid}
use Rattle.base_types.specs.declared.ids.FilesetId.{FilesetId}
use Rattle.token_types.specs.declared.token.Token.{Token}
use Rattle.message_types.specs.declared.asking.Fetch.{Fetch as FetchOf}
use Rattle.message_types.specs.declared.giving.Give.{Give}
use Rattle.run_rules.specs.declared.step.Step.{Step}
use Rattle.run_rules.specs.HostTokens.{HostTokens}
use Rattle.run_rules.specs.Messages.{Asking, HasSaid as HasTold}
use Rattle.run_rules.specs.Past.{In}
use Rattle.run_rules.specs.Tokens.{IsKnown, Made, Owns}
use Rattle.run_tokens.proofs.Invariant.{Alone}
use Rattle.tree_laws.specs.Parts.{Part, Seen}
use Rattle.tree_laws.specs.Parts.Part.{ByteAt, Size, Traits, Entries}
use Rattle.run_parts.specs.Contents.{Contents, site, dirty, OwnsUpdate, HasSaid, HostShows}
use Rattle.run_parts.proofs.Cells.{some_value}
use Rattle.run_parts.proofs.Invariant.{Alike}

not_both : (b : Bool) → b ≡ true → not b ≡ true → ⊥
not_both true e q = cc
not_both false e q = cc

module _ (c : Contents) (A : List Step) (s : Step) (rules : HostShows c A s) where
  -- a Fetch that was sent before and is outstanding after the step was so before it
  pub was_asking : (f : FetchOf) → HasSaid A f → Asking (s ∷ A) f.fid.fileset f.number → Asking A f.fid.fileset f.number
  was_asking f said a =
      elim a.0 [
        | inl q ↦ elim (rules.fetches q.0 q.1) [
          | inl old ↦ subst (λ (y : FilesetId × ℕ). Asking A y.0 y.1) (λ i. (q.2 i, q.3 i)) old.1
          | inr asks ↦ absurd (asks.new f said (sym q.2) (sym q.3))
        ]
        | inr old ↦ old
      ]

  module _ (alone : Alone A) (may : HostTokens A s) (seen : Alike c A) (at : (t : Token) → Owns (s ∷ A) t
      → t.id.server ≡ site t.fid) where
    dirty' : (q : ℕ) (f : Fid) → dirty c (s ∷ A) f q ≡ true → OwnsUpdate (s ∷ A) f (ByteAt q)
    dirty' q f d =
        let r = and_parts (is_some (c.wrote A s f (ByteAt q)) || dirty c A f q) (not (c.hands s f q)) d in
        elim (or_cases (is_some (c.wrote A s f (ByteAt q))) (dirty c A f q) r.0) [
          | inl w ↦ (let x = some_value (c.wrote A s f (ByteAt q)) w in rules.writes f (ByteAt q) x.0 x.1)
          | inr w ↦ elim (rules.gives.saves f q w (seen.dirty_owned q f w)) [
            | inl u ↦ u
            | inr x ↦ absurd (not_both (c.hands s f q) x r.1)
          ]
        ]

    -- after its Bye a host takes nothing
    no_take : (v : ServerId) (t : Token) → HasTold A v Bye → In t s.taken → ⊥
    no_take v t bye m =
        let w = may.takes t m in
        elim w.1.0 [
          | inl a ↦ alone.bye_asking v w.0.fid.fileset w.0.number bye a.3
          | inr a ↦ alone.bye_changing v _ a.0.fileset w.0.number bye a.3
        ]

    given_later : (v : ServerId) (g : Give) (p : Part) (x : Seen p) → HasTold A v Bye → In g s.made
        → c.gives g p ≡ Some x → ⊥
    given_later v g (ByteAt q) x bye m has = let u = seen.dirty_owned q g.fid (rules.gives.gives_dirty g q x m has) in
        alone.bye_held u.token v bye u.owned
    given_later v g Size x bye m has =
        elim (rules.gives.gives_own g x m has) [
          | inl u ↦ alone.bye_held u.token v bye u.owned
          | inr t ↦ no_take v t.0 bye t.1
        ]
    given_later v g Traits x bye m has = elim (c.gives_data g Traits x has) [ ]
    given_later v g Entries x bye m has = elim (c.gives_data g Entries x has) [ ]

    bye' : (v : ServerId) (g : Give) (p : Part) (x : Seen p) → HasTold (s ∷ A) v Bye → Made (s ∷ A) g
        → c.gives g p ≡ Some x → IsKnown (s ∷ A) g
    bye' v g p x (d, n, inl y) m has = may.bye_gives v d n g y m
    bye' v g p x (d, n, inr y) (inl m) has = absurd (given_later v g p x (d, n, y) m has)
    bye' v g p x (d, n, inr y) (inr m) has = inr (seen.bye_given v g p x (d, n, y) m has)

    pub seen_step : Alike c (s ∷ A)
    seen_step = record { dirty_owned = dirty'; owned_at = at; bye_given = bye' }
