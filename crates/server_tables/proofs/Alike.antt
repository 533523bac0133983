-- Lists of doings that say the same of a server. Words that are sent and decisions may change places, so a step may be
-- made in another order than the rules tell it in.
use Rattle.std.proofs.Common.{List, [], ap, refl, subst, sym, ℕ, ◌∷◌, ◌∙◌, ◌≡◌, ◌⊎◌, inl, inr}
use Rattle.base_types.specs.declared.ids.Fid.{Fid}
use Rattle.base_types.specs.declared.ids.FilesetId.{FilesetId}
use Rattle.base_types.specs.declared.ids.HostId.{HostId}
use Rattle.base_types.specs.declared.ids.ServerId.{ServerId}
use Rattle.message_types.specs.declared.giving.AppliedGive.{AppliedGive}
use Rattle.message_types.specs.declared.message.Body.{Body}
use Rattle.message_types.specs.declared.message.Body.TheVariants.{Bye, Down, GiveBack, Hello, Kept, Returned}
use Rattle.message_types.specs.declared.tokens.Named.{Named}
use Rattle.token_types.specs.declared.token.Token.{Token}
use Rattle.token_types.specs.declared.token.TokenId.{TokenId}
use Rattle.run_rules.specs.Doings.{Doing, Enlists, GivenUp, GivesUp, GoesAway, Granted, HasGoneAway, HasGoneDown}
use Rattle.run_rules.specs.Doings.{HasReclaimed, HasUsedStamp, Hears, IsApplied, IsLive, IsNewEpoch, IsNewlyGranted}
use Rattle.run_rules.specs.Doings.{Issued}
use Rattle.run_rules.specs.Doings.{Listed, ListedNow, Pinned, Reserved, SentTo, StayStamp, TakesBye}
use Rattle.run_rules.specs.Doings.{TakesFrom, TakesOf, TookNow, TookOf, WasWritten, epoch, epoch_after, slot_by, slot_of}
use Rattle.run_rules.specs.Doings.Doing.{Admits, Flushes, MakesWant, Reserves, Sent, Took, WritesDown}
use Rattle.run_rules.specs.Past.{In, appended}
use Rattle.run_rules.specs.ServerMay.{HasRevoked}
use Rattle.run_rules.specs.Wants.{CannotBothWait, Decides, IsQueued, IsQueuedBefore, Unwants}
use Rattle.run_rules.specs.declared.applied.Wanted.{Wanted}
use Rattle.run_rules.specs.declared.applied.Written.{Written}
use Rattle.server_tables.specs.Standing.{WroteThis}
use Rattle.run_tokens.specs.Unmoved.{MovesOne}
use Rattle.run_tokens.proofs.Unmoved.{slot_on}
use Rattle.server_tables.proofs.Still.{same_epoch}

-- # Both hold, or neither does

abbrev pub Both : Type 0 → Type 0 → Type 0
Both A B = (A → B) × (B → A)

pub both_same : {A : Type 0} → Both A A
both_same {A} = (λ x. x, λ x. x)

pub both_back : {A B : Type 0} → Both A B → Both B A
both_back f = (f.1, f.0)

pub both_then : {A B C : Type 0} → Both A B → Both B C → Both A C
both_then f g = (λ x. g.0 (f.0 x), λ x. f.1 (g.1 x))

pub either_both : {A B C D : Type 0} → Both A B → Both C D → Both (A ⊎ C) (B ⊎ D)
either_both f g = (
  λ x. elim x [ inl a ↦ inl (f.0 a) | inr c ↦ inr (g.0 c) ],
  λ x. elim x [ inl b ↦ inl (f.1 b) | inr d ↦ inr (g.1 d) ],
)

pub and_both : {A B C D : Type 0} → Both A B → Both C D → Both (A × C) (B × D)
and_both f g = (λ x. (f.0 x.0, g.0 x.1), λ x. (f.1 x.0, g.1 x.1))

pub not_both : {A B : Type 0} → Both A B → Both (A → ⊥) (B → ⊥)
not_both f = (λ none b. none (f.1 b), λ none a. none (f.0 a))

pub swap_both : {A B C : Type 0} → Both (A ⊎ (B ⊎ C)) (B ⊎ (A ⊎ C))
swap_both {A} {B} {C} = (
  λ x. elim x [ inl a ↦ inr (inl a) | inr y ↦ elim y [ inl b ↦ inl b | inr c ↦ inr (inr c) ] ],
  λ x. elim x [ inl b ↦ inr (inl b) | inr y ↦ elim y [ inl a ↦ inl a | inr c ↦ inr (inr c) ] ],
)

-- # The words of a server's doings

-- what it heard
pub record SameHeard (server : ServerId) (p q : List Doing) : Type 0 where
  pub epoch_is : epoch p ≡ epoch q
  pub slots : (f : FilesetId) → slot_of server p f ≡ slot_of server q f
  pub down : (h : HostId) → Both (HasGoneDown p h) (HasGoneDown q h)
  pub listed : (h : HostId) → Both (Listed p h) (Listed q h)
  pub away : (h : HostId) → Both (HasGoneAway p h) (HasGoneAway q h)
  pub now : (h : HostId) → Both (ListedNow p h) (ListedNow q h)
  pub took : (h : HostId) (n : ℕ) (b : Body) → Both (TookNow p h n b) (TookNow q h n b)
  pub took_of : (h : HostId) (f : FilesetId) (b : Body) → Both (TookOf server p h f b) (TookOf server q h f b)
  pub applied : (h : HostId) (n : AppliedGive) → Both (IsApplied server p h n) (IsApplied server q h n)
  pub given_up : (h : HostId) (i : TokenId) → Both (GivenUp server p h i) (GivenUp server q h i)
  pub reserved : (t : Token) → Both (Reserved p t) (Reserved q t)

-- and all else
pub record SameWords (server : ServerId) (p q : List Doing) : Type 0 where
  pub heard : SameHeard server p q
  pub sent : (h : HostId) (e n : ℕ) (b : Body) → Both (SentTo p h e n b) (SentTo q h e n b)
  pub reclaimed : (h : HostId) → Both (HasReclaimed p h) (HasReclaimed q h)
  pub issued : (t : Token) (k : StayStamp) → Both (Issued p t k) (Issued q t k)
  pub granted : (t : Token) → Both (Granted server p t) (Granted server q t)
  pub pinned : (t : Token) → Both (Pinned server p t) (Pinned server q t)
  pub written : (h : HostId) (f : FilesetId) (n : ℕ) → Both (WasWritten p h f n) (WasWritten q h f n)
  pub wrote : (w : Written) → Both (WroteThis p w) (WroteThis q w)
  pub stamps : (f : Fid) (k : ℕ) → Both (HasUsedStamp p f k) (HasUsedStamp q f k)
  pub revoked : (t : Token) → Both (HasRevoked p t) (HasRevoked q t)
  pub queued : (w : Wanted) → Both (IsQueued p w) (IsQueued q w)
  pub before : (w v : Wanted) → Both (IsQueuedBefore p w v) (IsQueuedBefore q w v)

pub heard_back : {server : ServerId} {p q : List Doing} → SameHeard server p q → SameHeard server q p
heard_back s = record {
  epoch_is = sym s.epoch_is;
  slots = λ f. sym (s.slots f);
  down = λ h. both_back (s.down h);
  listed = λ h. both_back (s.listed h);
  away = λ h. both_back (s.away h);
  now = λ h. both_back (s.now h);
  took = λ h n b. both_back (s.took h n b);
  took_of = λ h f b. both_back (s.took_of h f b);
  applied = λ h n. both_back (s.applied h n);
  given_up = λ h i. both_back (s.given_up h i);
  reserved = λ t. both_back (s.reserved t);
}

pub heard_then : {server : ServerId} {p q r : List Doing} → SameHeard server p q → SameHeard server q r
    → SameHeard server p r
heard_then s z = record {
  epoch_is = s.epoch_is ∙ z.epoch_is;
  slots = λ f. s.slots f ∙ z.slots f;
  down = λ h. both_then (s.down h) (z.down h);
  listed = λ h. both_then (s.listed h) (z.listed h);
  away = λ h. both_then (s.away h) (z.away h);
  now = λ h. both_then (s.now h) (z.now h);
  took = λ h n b. both_then (s.took h n b) (z.took h n b);
  took_of = λ h f b. both_then (s.took_of h f b) (z.took_of h f b);
  applied = λ h n. both_then (s.applied h n) (z.applied h n);
  given_up = λ h i. both_then (s.given_up h i) (z.given_up h i);
  reserved = λ t. both_then (s.reserved t) (z.reserved t);
}

pub words_back : {server : ServerId} {p q : List Doing} → SameWords server p q → SameWords server q p
words_back s = record {
  heard = heard_back s.heard;
  sent = λ h e n b. both_back (s.sent h e n b);
  reclaimed = λ h. both_back (s.reclaimed h);
  issued = λ t k. both_back (s.issued t k);
  granted = λ t. both_back (s.granted t);
  pinned = λ t. both_back (s.pinned t);
  written = λ h f n. both_back (s.written h f n);
  wrote = λ w. both_back (s.wrote w);
  stamps = λ f k. both_back (s.stamps f k);
  revoked = λ t. both_back (s.revoked t);
  queued = λ w. both_back (s.queued w);
  before = λ w v. both_back (s.before w v);
}

pub words_then : {server : ServerId} {p q r : List Doing} → SameWords server p q → SameWords server q r
    → SameWords server p r
words_then s z = record {
  heard = heard_then s.heard z.heard;
  sent = λ h e n b. both_then (s.sent h e n b) (z.sent h e n b);
  reclaimed = λ h. both_then (s.reclaimed h) (z.reclaimed h);
  issued = λ t k. both_then (s.issued t k) (z.issued t k);
  granted = λ t. both_then (s.granted t) (z.granted t);
  pinned = λ t. both_then (s.pinned t) (z.pinned t);
  written = λ h f n. both_then (s.written h f n) (z.written h f n);
  wrote = λ w. both_then (s.wrote w) (z.wrote w);
  stamps = λ f k. both_then (s.stamps f k) (z.stamps f k);
  revoked = λ t. both_then (s.revoked t) (z.revoked t);
  queued = λ w. both_then (s.queued w) (z.queued w);
  before = λ w v. both_then (s.before w v) (z.before w v);
}

pub heard_same : (server : ServerId) (p : List Doing) → SameHeard server p p
heard_same server p = record {
  epoch_is = refl;
  slots = λ f. refl;
  down = λ h. both_same;
  listed = λ h. both_same;
  away = λ h. both_same;
  now = λ h. both_same;
  took = λ h n b. both_same;
  took_of = λ h f b. both_same;
  applied = λ h n. both_same;
  given_up = λ h i. both_same;
  reserved = λ t. both_same;
}

pub words_same : (server : ServerId) (p : List Doing) → SameWords server p p
words_same server p = record {
  heard = heard_same server p;
  sent = λ h e n b. both_same;
  reclaimed = λ h. both_same;
  issued = λ t k. both_same;
  granted = λ t. both_same;
  pinned = λ t. both_same;
  written = λ h f n. both_same;
  wrote = λ w. both_same;
  stamps = λ f k. both_same;
  revoked = λ t. both_same;
  queued = λ w. both_same;
  before = λ w v. both_same;
}

-- # One doing more

module _ (server : ServerId) (p q : List Doing) (s : SameHeard server p q) where
  pub live_both : (h : HostId) → Both (IsLive p h) (IsLive q h)
  live_both h = and_both (s.listed h) (not_both (s.away h))

  module _ (a : Doing) where
    takes_both : (h : HostId) (n : ℕ) (b : Body) → Both (TakesFrom p a h n b) (TakesFrom q a h n b)
    takes_both h n b = (
      λ t. (subst (λ e. a ≡ Took h e n b) s.epoch_is t.0, (live_both h).0 t.1),
      λ t. (subst (λ e. a ≡ Took h e n b) (sym s.epoch_is) t.0, (live_both h).1 t.1),
    )

    of_both : (h : HostId) (f : FilesetId) (b : Body) → Both (TakesOf server p a h f b) (TakesOf server q a h f b)
    of_both h f b = (
      λ t. (t.0, sym (s.slots f) ∙ t.1, (takes_both h t.0 b).0 t.2),
      λ t. (t.0, s.slots f ∙ t.1, (takes_both h t.0 b).1 t.2),
    )

    bye_both : (h : HostId) → Both (TakesBye p a h) (TakesBye q a h)
    bye_both h = (
      λ t. (
        (t.0.0, subst (λ e. a ≡ Took h e t.0.0 Bye) s.epoch_is t.0.1),
        (s.listed h).0 t.1,
        λ d. t.2
            ((s.down h).1 d),
      ),
      λ t. (
        (t.0.0, subst (λ e. a ≡ Took h e t.0.0 Bye) (sym s.epoch_is) t.0.1),
        (s.listed h).1 t.1,
        λ d. t.2 ((s.down h).0 d),
      ),
    )

    pub goes_both : (h : HostId) → Both (GoesAway p a h) (GoesAway q a h)
    goes_both h = either_both both_same (bye_both h)

    listed_both : (h : HostId) → Both (Listed (a ∷ p) h) (Listed (a ∷ q) h)
    listed_both h = (
      λ l. elim l [
        | inl x ↦ inl (x.0, λ o. x.1 ((s.listed h).1 o), λ d. x.2 ((s.down h).1 d))
        | inr o ↦ inr ((s.listed h).0 o)
      ],
      λ l. elim l [
        | inl x ↦ inl (x.0, λ o. x.1 ((s.listed h).0 o), λ d. x.2 ((s.down h).0 d))
        | inr o ↦ inr ((s.listed h).1 o)
      ],
    )

    pub enlists_both : (h : HostId) → Both (Enlists p a h) (Enlists q a h)
    enlists_both h = and_both (listed_both h) (not_both (s.listed h))

    pub names_both : (h : HostId) (i : TokenId) → Both (GivesUp server p a h i) (GivesUp server q a h i)
    names_both h i = (
      λ g. elim g [
        | inl x ↦ inl (x.0, (of_both h x.0.fid.fileset (Returned x.0)).0 x.1, x.2)
        | inr x ↦ inr (x.0, (of_both h x.0.fid.fileset (GiveBack x.0)).0 x.1, x.2)
      ],
      λ g. elim g [
        | inl x ↦ inl (x.0, (of_both h x.0.fid.fileset (Returned x.0)).1 x.1, x.2)
        | inr x ↦ inr (x.0, (of_both h x.0.fid.fileset (GiveBack x.0)).1 x.1, x.2)
      ],
    )

    applies_both : (h : HostId) (n : AppliedGive) → Both (IsApplied server (a ∷ p) h n) (IsApplied server (a ∷ q) h n)
    applies_both h n = (
      λ o. elim o [
        | inl x ↦ inl (x.0, (of_both h n.fileset (GiveBack x.0)).0 x.1, x.2, x.3)
        | inr r ↦ inr ((s.applied h n).0 r)
      ],
      λ o. elim o [
        | inl x ↦ inl (x.0, (of_both h n.fileset (GiveBack x.0)).1 x.1, x.2, x.3)
        | inr r ↦ inr ((s.applied h n).1 r)
      ],
    )

    pub kept_both : (h : HostId) (f : FilesetId) (n : Named)
        → Both (TakesOf server p a h f (Kept n)) (TakesOf server q a h f (Kept n))
    kept_both h f n = of_both h f (Kept n)

    pub heard_next : SameHeard server (a ∷ p) (a ∷ q)
    heard_next = record {
      epoch_is = ap (epoch_after a) s.epoch_is;
      slots = λ f. ap (slot_by a f) (s.slots f);
      down = λ h. either_both both_same (s.down h);
      listed = listed_both;
      away = λ h. either_both (goes_both h) (s.away h);
      now = λ h. either_both (enlists_both h) (and_both (s.now h) both_same);
      took = λ h n b. either_both (takes_both h n b) (and_both (s.took h n b) both_same);
      took_of = λ h f b. either_both (of_both h f b) (and_both (s.took_of h f b) both_same);
      applied = applies_both;
      given_up = λ h i. either_both (names_both h i) (and_both (s.given_up h i) both_same);
      reserved = λ t. either_both both_same (and_both (s.reserved t) both_same);
    }

module _ (server : ServerId) (p q : List Doing) (s : SameWords server p q) (a : Doing) where
  unwants_both : (w : Wanted) → Both (Unwants p a w) (Unwants q a w)
  unwants_both w =
      either_both both_same (either_both both_same (either_both (goes_both server p q s.heard a w.host) both_same))

  granted_both : (t : Token) → Both (Granted server (a ∷ p) t) (Granted server (a ∷ q) t)
  granted_both t = (
    λ g. elim g [
      | inl n ↦ inl n
      | inr x ↦ inr (
        (s.granted t).0 x.0,
        x.1,
        λ u. x.2 ((names_both server p q s.heard a t.host t.id).1 u),
        λ u. x.3 ((goes_both server p q s.heard a t.host).1 u),
      )
    ],
    λ g. elim g [
      | inl n ↦ inl n
      | inr x ↦ inr (
        (s.granted t).1 x.0,
        x.1,
        λ u. x.2 ((names_both server p q s.heard a t.host t.id).0 u),
        λ u. x.3 ((goes_both server p q s.heard a t.host).0 u),
      )
    ],
  )

  pinned_both : (t : Token) → Both (Pinned server (a ∷ p) t) (Pinned server (a ∷ q) t)
  pinned_both t = (
    λ g. (
      elim g.0 [
        | inl x ↦ inl (
          x.0,
          (kept_both server p q s.heard a t.host x.0.fid.fileset x.0).0 x.1,
          x.2,
          x.3,
          (s.granted t).0 x.4,
        )
        | inr o ↦ inr ((s.pinned t).0 o)
      ],
      (granted_both t).0 g.1,
    ),
    λ g. (
      elim g.0 [
        | inl x ↦ inl (
          x.0,
          (kept_both server p q s.heard a t.host x.0.fid.fileset x.0).1 x.1,
          x.2,
          x.3,
          (s.granted t).1 x.4,
        )
        | inr o ↦ inr ((s.pinned t).1 o)
      ],
      (granted_both t).1 g.1,
    ),
  )

  queued_both : (w : Wanted) → Both (IsQueued (a ∷ p) w) (IsQueued (a ∷ q) w)
  queued_both w = either_both both_same (and_both (s.queued w) (not_both (unwants_both w)))

  before_both : (w v : Wanted) → Both (IsQueuedBefore (a ∷ p) w v) (IsQueuedBefore (a ∷ q) w v)
  before_both w v = (
    λ b. (
      elim b.0 [
        | inl x ↦ inl ((s.queued w).0 x.0, x.1)
        | inr o ↦ inr ((s.before w v).0 o)
      ],
      (queued_both w).0 b.1,
      (queued_both v).0 b.2,
    ),
    λ b. (
      elim b.0 [
        | inl x ↦ inl ((s.queued w).1 x.0, x.1)
        | inr o ↦ inr ((s.before w v).1 o)
      ],
      (queued_both w).1 b.1,
      (queued_both v).1 b.2,
    ),
  )

  pub words_next : SameWords server (a ∷ p) (a ∷ q)
  words_next = record {
    heard = heard_next server p q s.heard a;
    sent = λ h e n b. either_both both_same (s.sent h e n b);
    reclaimed = λ h.
        either_both (either_both both_same (enlists_both server p q s.heard a h)) (and_both (s.reclaimed h) both_same);
    issued = λ t k. either_both both_same (s.issued t k);
    granted = granted_both;
    pinned = pinned_both;
    written = λ h f n. either_both both_same (s.written h f n);
    wrote = λ w. either_both both_same (s.wrote w);
    stamps = λ f k. either_both both_same (and_both (s.stamps f k) both_same);
    revoked = λ t. either_both both_same (and_both (s.revoked t) both_same);
    queued = queued_both;
    before = before_both;
  }

-- and some doings more
pub words_under : (server : ServerId) (p q : List Doing) (more : List Doing) → SameWords server p q
    → SameWords server (appended more p) (appended more q)
words_under server p q [] s = s
words_under server p q (a ∷ more) s = words_under server (a ∷ p) (a ∷ q) more (words_next server p q s a)

-- # A doing that takes nothing

-- it takes no message, begins no epoch, moves no fileset, and keeps and lets go nothing
pub record IsInner (a : Doing) : Type 0 where
  pub took : (h : HostId) (e n : ℕ) (b : Body) → a ≡ Took h e n b → ⊥
  pub begins : IsNewEpoch a → ⊥
  pub still : MovesOne a → ⊥
  pub flushes : a ≡ Flushes → ⊥
  pub reserves : (ts : List Token) → a ≡ Reserves ts → ⊥

pub sent_inner : (h : HostId) (e n : ℕ) (b : Body) → IsInner (Sent h e n b)
sent_inner h e n b = record {
  took = λ k f m d p. cc;
  begins = λ x. let p = x.1 in cc;
  still = λ x. let p = x.1 in cc;
  flushes = λ p. cc;
  reserves = λ ts p. cc;
}

pub want_inner : (w : Wanted) → IsInner (MakesWant w)
want_inner w = record {
  took = λ k f m d p. cc;
  begins = λ x. let p = x.1 in cc;
  still = λ x. let p = x.1 in cc;
  flushes = λ p. cc;
  reserves = λ ts p. cc;
}

pub write_inner : (w : Written) → IsInner (WritesDown w)
write_inner w = record {
  took = λ k f m d p. cc;
  begins = λ x. let p = x.1 in cc;
  still = λ x. let p = x.1 in cc;
  flushes = λ p. cc;
  reserves = λ ts p. cc;
}

pub admit_inner : (h : HostId) (ts : List Token) → IsInner (Admits h ts)
admit_inner h ts = record {
  took = λ k f m d p. cc;
  begins = λ x. let p = x.1 in cc;
  still = λ x. let p = x.1 in cc;
  flushes = λ p. cc;
  reserves = λ us p. cc;
}

module _ (server : ServerId) (p : List Doing) (a : Doing) (i : IsInner a) where
  hears_none : (h : HostId) (b : Body) → Hears a h b → ⊥
  hears_none h b x = i.took h x.0 x.1 b x.2

  takes_none : (h : HostId) (n : ℕ) (b : Body) → TakesFrom p a h n b → ⊥
  takes_none h n b t = i.took h (epoch p) n b t.0

  of_none : (h : HostId) (f : FilesetId) (b : Body) → TakesOf server p a h f b → ⊥
  of_none h f b t = takes_none h t.0 b t.2

  pub goes_none : (h : HostId) → GoesAway p a h → ⊥
  goes_none h g = elim g [ inl x ↦ hears_none h Down x | inr x ↦ i.took h (epoch p) x.0.0 Bye x.0.1 ]

  pub names_none : (h : HostId) (t : TokenId) → GivesUp server p a h t → ⊥
  names_none h t g = elim g [
    | inl x ↦ of_none h x.0.fid.fileset (Returned x.0) x.1
    | inr x ↦ of_none h x.0.fid.fileset (GiveBack x.0) x.1
  ]

  listed_was : (h : HostId) → Both (Listed (a ∷ p) h) (Listed p h)
  listed_was h = (λ l. elim l [ inl x ↦ absurd (hears_none h Hello x.0) | inr o ↦ o ], λ o. inr o)

  pub enlists_none : (h : HostId) → Enlists p a h → ⊥
  enlists_none h x = x.1 ((listed_was h).0 x.0)

  -- what was so once, and what was so in the epoch
  only_once : {A B : Type 0} → (A → ⊥) → Both (A ⊎ B) B
  only_once none = (λ x. elim x [ inl y ↦ absurd (none y) | inr b ↦ b ], λ b. inr b)

  only_since : {A B : Type 0} → (A → ⊥) → Both (A ⊎ (B × (IsNewEpoch a → ⊥))) B
  only_since none = (λ x. elim x [ inl y ↦ absurd (none y) | inr b ↦ b.0 ], λ b. inr (b, i.begins))

  pub heard_inner : SameHeard server (a ∷ p) p
  heard_inner = record {
    epoch_is = same_epoch a (epoch p) i.begins;
    slots = λ f. slot_on a f (slot_of server p f) i.still;
    down = λ h. only_once (hears_none h Down);
    listed = listed_was;
    away = λ h. only_once (goes_none h);
    now = λ h. only_since (enlists_none h);
    took = λ h n b. only_since (takes_none h n b);
    took_of = λ h f b. only_since (of_none h f b);
    applied = λ h n. only_once (λ x. of_none h n.fileset (GiveBack x.0) x.1);
    given_up = λ h t. only_since (names_none h t);
    reserved = λ t. (
      λ x. elim x [ inl y ↦ absurd (i.reserves y.0 y.1) | inr y ↦ y.0 ],
      λ y. inr (y, λ e. elim e [ inl b ↦ i.begins b | inr f ↦ i.flushes f ]),
    );
  }

  pub granted_inner : (t : Token) → Both (Granted server (a ∷ p) t) (IsNewlyGranted a t ⊎ Granted server p t)
  granted_inner t = (
    λ g. elim g [ inl n ↦ inl n | inr x ↦ inr x.0 ],
    λ g. elim g [ inl n ↦ inl n | inr o ↦ inr (o, i.begins, names_none t.host t.id, goes_none t.host) ],
  )

  pub pinned_inner : (t : Token) → Both (Pinned server (a ∷ p) t) (Pinned server p t)
  pinned_inner t = (
    λ g. elim g.0 [ inl x ↦ absurd (of_none t.host x.0.fid.fileset (Kept x.0) x.1) | inr o ↦ o ],
    λ o. (inr o, (granted_inner t).1 (inr (its p o))),
  )
    where
      its : (acts : List Doing) → Pinned server acts t → Granted server acts t
      its [] o = o
      its (x ∷ acts) o = o.1

  since_inner : {A B : Type 0} → Both (A ⊎ (B × (IsNewEpoch a → ⊥))) (A ⊎ B)
  since_inner {A} {B} = (
    λ x. elim x [ inl y ↦ inl y | inr y ↦ inr y.0 ],
    λ x. elim x [ inl y ↦ inl y | inr y ↦ inr (y, i.begins) ],
  )

  pub reclaimed_inner : (h : HostId)
      → Both (HasReclaimed (a ∷ p) h) (((ts : List Token) × (a ≡ Admits h ts)) ⊎ HasReclaimed p h)
  reclaimed_inner h = (
    λ x. elim x [
      | inl y ↦ elim y [ inl z ↦ inl z | inr z ↦ absurd (enlists_none h z) ]
      | inr y ↦ inr y.0
    ],
    λ x. elim x [ inl y ↦ inl (inl y) | inr y ↦ inr (y, i.begins) ],
  )

  pub unwants_inner : (w : Wanted) → Both (Unwants p a w)
      (Decides a w.host w.request ⊎ ((v : Wanted) × (a ≡ MakesWant v) × (v.host ≡ w.host)
      × CannotBothWait v.request w.request))
  unwants_inner w = (
    λ x. elim x [
      | inl d ↦ inl d
      | inr y ↦ elim y [
        | inl m ↦ inr m
        | inr z ↦ absurd (elim z [ inl g ↦ goes_none w.host g | inr b ↦ i.begins b ])
      ]
    ],
    λ x. elim x [ inl d ↦ inl d | inr m ↦ inr (inl m) ],
  )

-- # A word that is sent, and what is decided beside it

-- It doesn't decide the want that the other doing makes.
abbrev pub IsApart : HostId → ℕ → ℕ → Body → Doing → Type 0
IsApart h e n b a = (w : Wanted) → a ≡ MakesWant w → Decides (Sent h e n b) w.host w.request → ⊥

module _ (server : ServerId) (p : List Doing) (h : HostId) (e n : ℕ) (b : Body) (a : Doing) (i : IsInner a)
    (apart : IsApart h e n b a) where
  abbrev s : Doing
  s = Sent h e n b

  i_s : IsInner s
  i_s = sent_inner h e n b

  -- what a third thing is, behind two that don't change it
  third : {A B C D E : Type 0} → Both D (A ⊎ (B ⊎ C)) → Both E (B ⊎ (A ⊎ C)) → Both D E
  third {A} {B} {C} {D} {E} f g = both_then f (both_then (swap_both {A = A} {B = B} {C = C}) (both_back g))

  unwants_s : (w : Wanted) → Both (Unwants (a ∷ p) s w) (Unwants p s w)
  unwants_s w =
      both_then (unwants_inner server (a ∷ p) s i_s w) (both_back (unwants_inner server p s i_s w))

  unwants_a : (w : Wanted) → Both (Unwants (s ∷ p) a w) (Unwants p a w)
  unwants_a w = both_then (unwants_inner server (s ∷ p) a i w) (both_back (unwants_inner server p a i w))

  apart_s : (w : Wanted) → a ≡ MakesWant w → Unwants p s w → ⊥
  apart_s w made u = elim ((unwants_inner server p s i_s w).0 u) [
    | inl d ↦ apart w made d
    | inr m ↦ (let q = m.1 in cc)
  ]

  -- first the word, and then the other
  abbrev late : List Doing
  late = s ∷ a ∷ p

  abbrev early : List Doing
  early = a ∷ s ∷ p

  queued_swap : (w : Wanted) → Both (IsQueued late w) (IsQueued early w)
  queued_swap w = (to, back)
    where
      to : IsQueued late w → IsQueued early w
      to (inl q) = absurd (cc)
      to (inr (inl made, not)) = inl made
      to (inr (inr (waits, stays), not)) =
          inr (inr (waits, λ u. not ((unwants_s w).1 u)), λ u. stays ((unwants_a w).0 u))

      back : IsQueued early w → IsQueued late w
      back (inl made) = inr (inl made, λ u. apart_s w made ((unwants_s w).0 u))
      back (inr (inl q, stays)) = absurd (cc)
      back (inr (inr (waits, not), stays)) =
          inr (inr (waits, λ u. stays ((unwants_a w).1 u)), λ u. not ((unwants_s w).0 u))

  -- what waits before the other is made waits for the word too
  with_s : (w : Wanted) → IsQueued p w → IsQueued late w → IsQueued (s ∷ p) w
  with_s w waits (inl q) = absurd (cc)
  with_s w waits (inr (z, not)) = inr (waits, λ u. not ((unwants_s w).1 u))

  without_s : (w : Wanted) → IsQueued (s ∷ p) w → IsQueued p w
  without_s w (inl q) = absurd (cc)
  without_s w (inr (waits, not)) = waits

  with_a : (w : Wanted) → IsQueued late w → IsQueued (a ∷ p) w
  with_a w (inl q) = absurd (cc)
  with_a w (inr (z, not)) = z

  both_wait : (acts : List Doing) (w v : Wanted) → IsQueuedBefore acts w v → IsQueued acts w × IsQueued acts v
  both_wait [] w v o = absurd o
  both_wait (x ∷ acts) w v o = (o.1, o.2)

  before_swap : (w v : Wanted) → Both (IsQueuedBefore late w v) (IsQueuedBefore early w v)
  before_swap w v = (to, back)
    where
      to : IsQueuedBefore late w v → IsQueuedBefore early w v
      to (inl (waits, q), x, y) = absurd (cc)
      to (inr (inl (waits, made), l, m), x, y) =
          (inl (with_s w waits x, made), (queued_swap w).0 x, (queued_swap v).0 y)
      to (inr (inr o, l, m), x, y) =
          let waits = both_wait p w v o in
          (inr (inr o, with_s w waits.0 x, with_s v waits.1 y), (queued_swap w).0 x, (queued_swap v).0 y)

      back : IsQueuedBefore early w v → IsQueuedBefore late w v
      back (inl (waits, made), x, y) =
          let l = (queued_swap w).1 x in let m = (queued_swap v).1 y in
          (inr (inl (without_s w waits, made), with_a w l, with_a v m), l, m)
      back (inr (inl (waits, q), l, m), x, y) = absurd (cc)
      back (inr (inr o, l, m), x, y) =
          let j = (queued_swap w).1 x in let k = (queued_swap v).1 y in
          (inr (inr o, with_a w j, with_a v k), j, k)

  pub words_swap : SameWords server late early
  words_swap = record {
    heard = heard_then (heard_then (heard_inner server (a ∷ p) s i_s) (heard_inner server p a i))
        (heard_back (heard_then (heard_inner server (s ∷ p) a i) (heard_inner server p s i_s)));
    sent = λ k f m d. swap_both;
    reclaimed = λ k.
        third (both_then (reclaimed_inner server (a ∷ p) s i_s k) (either_both both_same
        (reclaimed_inner server p a i k)))
        (both_then (reclaimed_inner server (s ∷ p) a i k) (either_both both_same (reclaimed_inner server p s i_s k)));
    issued = λ t k. swap_both;
    granted = λ t.
        third (both_then (granted_inner server (a ∷ p) s i_s t) (either_both both_same (granted_inner server p a i t)))
        (both_then (granted_inner server (s ∷ p) a i t) (either_both both_same (granted_inner server p s i_s t)));
    pinned = λ t.
        both_then (both_then (pinned_inner server (a ∷ p) s i_s t) (pinned_inner server p a i t))
        (both_back (both_then (pinned_inner server (s ∷ p) a i t) (pinned_inner server p s i_s t)));
    written = λ k f m. swap_both;
    wrote = λ w. swap_both;
    stamps = λ f k.
        third (both_then (since_inner server (a ∷ p) s i_s) (either_both both_same (since_inner server p a i)))
        (both_then (since_inner server (s ∷ p) a i) (either_both both_same (since_inner server p s i_s)));
    revoked = λ t.
        third (both_then (since_inner server (a ∷ p) s i_s) (either_both both_same (since_inner server p a i)))
        (both_then (since_inner server (s ∷ p) a i) (either_both both_same (since_inner server p s i_s)));
    queued = queued_swap;
    before = before_swap;
  }

-- # What is decided goes before all words that were sent

-- words, none of which decides a want that the doing makes
abbrev pub AreApart : List Doing → Doing → Type 0
AreApart [] a = Unit {0}
AreApart (s ∷ more) a =
    ((h : HostId) × (e : ℕ) × (n : ℕ) × (b : Body) × (s ≡ Sent h e n b) × IsApart h e n b a) × AreApart more a

pub words_moved : (server : ServerId) (p : List Doing) (more : List Doing) (a : Doing) → IsInner a → AreApart more a
    → SameWords server (a ∷ appended more p) (appended more (a ∷ p))
words_moved server p [] a i apart = words_same server (a ∷ p)
words_moved server p (s ∷ more) a i apart =
    words_then (words_moved server (s ∷ p) more a i apart.1)
    (words_under server (a ∷ s ∷ p) (s ∷ a ∷ p) more
    (subst (λ x. SameWords server (a ∷ x ∷ p) (x ∷ a ∷ p)) (sym apart.0.4)
    (words_back (words_swap server p apart.0.0 apart.0.1 apart.0.2 apart.0.3 a i apart.0.5))))

-- a doing that makes no want is apart from all words
pub sends_apart : (more : List Doing) (a : Doing) → ((w : Wanted) → a ≡ MakesWant w → ⊥)
    → ((s : Doing) → In s more → (h : HostId) × (e : ℕ) × (n : ℕ) × (b : Body) × (s ≡ Sent h e n b))
    → AreApart more a
sends_apart [] a none each = tt
sends_apart (s ∷ more) a none each =
    let x = each s (inl refl) in (
      (x.0, x.1, x.2, x.3, x.4, λ w made d. none w made),
      sends_apart more a none (λ z i. each z (inr i)),
    )
