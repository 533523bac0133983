-- What is said while a step still decides: a word, or the reply to a Change that is written down. Whatever is decided
-- and admitted after it, the rules let it be sent.
use Rattle.std.proofs.Common.{List, [], ap, false, inl, inr, subst, sym, ℕ, ◌∷◌, ◌∙◌, ◌≡◌, ◌⊎◌}
use Rattle.base_types.specs.declared.ids.FilesetId.{FilesetId}
use Rattle.base_types.specs.declared.ids.HostId.{HostId}
use Rattle.base_types.specs.declared.ids.ServerId.{ServerId}
use Rattle.tree_answers.specs.declared.tree.Tree.{Tree}
use Rattle.token_types.specs.declared.token.TokenId.{TokenId}
use Rattle.message_types.specs.declared.asking.Change.{Change as ChangeOf}
use Rattle.message_types.specs.declared.giving.AppliedGive.{AppliedGive}
use Rattle.message_types.specs.declared.giving.Reclaimed.{Reclaimed as ReclaimedOf}
use Rattle.message_types.specs.declared.message.Body.{Body}
use Rattle.message_types.specs.declared.message.Body.TheVariants.{Change, Done, Gone, Grant, Reclaimed, Revoke}
use Rattle.message_types.specs.declared.telling.Done.{Done as DoneOf}
use Rattle.message_types.specs.declared.telling.DoneIs.TheVariants.{Reply as HasReply}
use Rattle.run_rules.specs.Doings.{Doing, GivenUp, Here, IsApplied, IsDurable, IsLive, SentTo, TookNow, epoch}
use Rattle.run_rules.specs.Doings.Doing.{Sent, WritesDown}
use Rattle.run_rules.specs.Past.{EachInTurn, In, appended}
use Rattle.run_rules.specs.ServerDecides.{DecidedSo, IsDecidedHere, IsWrittenSo}
use Rattle.run_rules.specs.ServerMay.{DoneFor, HasWritten, IsLast, MaySend}
use Rattle.run_rules.specs.ServerMay.DoneFor.{OfWritten}
use Rattle.run_rules.specs.ServerTokens.{ServerTokens}
use Rattle.run_rules.specs.Wants.{IsQueued}
use Rattle.run_rules.specs.declared.applied.Request.TheVariants.{Change as Changes}
use Rattle.run_rules.specs.declared.applied.Wanted.{Wanted}
use Rattle.run_rules.specs.declared.applied.Written.{Written}
use Rattle.run_rules.specs.declared.step.Step.{Step}
use Rattle.server_tables.specs.Standing.{WroteThis}
use Rattle.server_tables.proofs.Alike.{Both, IsInner, SameHeard, heard_back, heard_inner, heard_next, live_both}
use Rattle.server_tables.proofs.Quiet.{IsBlank, blank_may}

-- # A Change is written down

module _ (server : ServerId) (past : List Doing) (w : Wanted) (c : ChangeOf) (v : Written)
    (is : w.request ≡ Changes c) (host : v.answer.host ≡ w.host) (fileset : v.fileset ≡ c.fileset)
    (number : v.number ≡ c.number) (k : v.answer.k ≡ c.k) (call : v.answer.call ≡ c.call) where
  its_written : (o : Written) → WritesDown v ≡ WritesDown o → v ≡ o
  its_written o p = cc

  -- it was taken in this epoch, and none of its number was written down
  pub write_tokens : TookNow past w.host w.moves (Change c) → (IsDurable past w.host c.fileset c.number → ⊥)
      → ServerTokens server past (WritesDown v)
  write_tokens took fresh = record {
    epochs = λ h e n b p. absurd (cc);
    grants = λ h e n o p. absurd (cc);
    dones = λ h e n o p. absurd (cc);
    revokes = λ h e n r i p. absurd (cc);
    revokes_here = λ h e n r p. absurd (cc);
    stamps = λ h e n z r p. absurd (cc);
    gones = λ h e n o p. absurd (cc);
    reclaimed = λ h e n r o p. absurd (cc);
    left_out = λ h e n r i p. absurd (cc);
    admits = λ h ts p. absurd (cc);
    writes = λ o p.
        subst (λ (z : Written). (q : ChangeOf) × (n : ℕ) × TookNow past z.answer.host n (Change q)
        × (q.fileset ≡ z.fileset) × (q.number ≡ z.number) × (q.k ≡ z.answer.k) × (q.call ≡ z.answer.call))
        (its_written o p) (
          c,
          w.moves,
          subst (λ (h : HostId). TookNow past h w.moves (Change c)) (sym host) took,
          sym fileset,
          sym number,
          sym k,
          sym call,
        );
    writes_once = λ o p old.
        fresh (subst (λ (h : HostId). IsDurable past h c.fileset c.number) host
        (subst (λ (f : FilesetId). IsDurable past v.answer.host f c.number) fileset
        (subst (λ (n : ℕ). IsDurable past v.answer.host v.fileset n) number
        (subst (λ (z : Written). IsDurable past z.answer.host z.fileset z.number) (sym (its_written o p)) old))));
    reserves = λ ts t u p. absurd (cc);
  }

  pub written_so : (tree : Tree) → IsQueued past w → v.answer.first ≡ false
      → DecidedSo server tree past w c v.answer.reply → IsWrittenSo server tree past v
  written_so tree waits later so = record {
    w = w;
    waits = waits;
    change = c;
    request = is;
    host = host;
    fileset = fileset;
    number = number;
    k = k;
    call = call;
    later = later;
    so = so;
  }

-- # What is said of it, and other words

-- a word that hangs on what was heard alone
pub record IsWordOf (server : ServerId) (past : List Doing) (h : HostId) (n : ℕ) (b : Body) : Type 0 where
  pub blank : IsBlank b
  pub gone : (g : AppliedGive) → b ≡ Gone g → Here server past g.fileset n × IsApplied server past h g
  pub reclaimed : (r : ReclaimedOf) (g : AppliedGive) → b ≡ Reclaimed r → In g r.applied → IsApplied server past h g
  pub left_out : (r : ReclaimedOf) (i : TokenId) → b ≡ Reclaimed r → In i r.left_out → GivenUp server past h i

-- the reply to a Change that was written down, the last one of its host and fileset
pub record IsReplyOf (server : ServerId) (past : List Doing) (h : HostId) (n : ℕ) (d : DoneOf) : Type 0 where
  pub v : Written
  pub wrote : WroteThis past v
  pub host : v.answer.host ≡ h
  pub fileset : v.fileset ≡ d.fileset
  pub number : v.number ≡ d.bring.number
  pub reply : d.outcome ≡ HasReply v.answer.reply
  pub tokens : d.bring.tokens ≡ []
  pub last : IsLast past h d
  pub live : IsLive past h
  pub here : IsDecidedHere server past d.fileset n

abbrev pub IsEarly : ServerId → List Doing → Doing → Type 0
IsEarly server past a =
    ((h : HostId) × (n : ℕ) × (b : Body) × (a ≡ Sent h (epoch past) n b) × IsWordOf server past h n b)
    ⊎ ((h : HostId) × (n : ℕ) × (d : DoneOf) × (a ≡ Sent h (epoch past) n (Done d)) × IsReplyOf server past h n d)

-- # The rules let it be sent

same_body : (h k : HostId) (e f n m : ℕ) (b d : Body) → Sent h e n b ≡ Sent k f m d → b ≡ d
same_body h k e f n m b d p = cc

same_sent : (h k : HostId) (e f n m : ℕ) (b d : Body) → Sent h e n b ≡ Sent k f m d → (h ≡ k) × (e ≡ f) × (n ≡ m)
same_sent h k e f n m b d p = (cc, cc, cc)

word_tokens : (server : ServerId) (past : List Doing) (h : HostId) (n : ℕ) (b : Body) → IsWordOf server past h n b
    → ServerTokens server past (Sent h (epoch past) n b)
word_tokens server past h n b c = record {
  epochs = λ k f m d p. sym (same_sent h k (epoch past) f n m b d p).1;
  grants = λ k f m w p. absurd (c.blank.grant w (same_body h k (epoch past) f n m b (Grant w) p));
  dones = λ k f m w p. absurd (c.blank.done w (same_body h k (epoch past) f n m b (Done w) p));
  revokes = λ k f m r i p. absurd (c.blank.revoke r (same_body h k (epoch past) f n m b (Revoke r) p));
  revokes_here = λ k f m r p. absurd (c.blank.revoke r (same_body h k (epoch past) f n m b (Revoke r) p));
  stamps = λ k f m y r p. absurd (c.blank.revoke r (same_body h k (epoch past) f n m b (Revoke r) p));
  gones = λ k f m g p.
      (let s = same_sent h k (epoch past) f n m b (Gone g) p in
      let x = c.gone g (same_body h k (epoch past) f n m b (Gone g) p) in
      (subst (Here server past g.fileset) s.2 x.0, subst (λ (i : HostId). IsApplied server past i g) s.0 x.1));
  reclaimed = λ k f m r g p i.
      (let s = same_sent h k (epoch past) f n m b (Reclaimed r) p in
      subst (λ (j : HostId). IsApplied server past j g) s.0
      (c.reclaimed r g (same_body h k (epoch past) f n m b (Reclaimed r) p) i));
  left_out = λ k f m r i p j.
      (let s = same_sent h k (epoch past) f n m b (Reclaimed r) p in
      subst (λ (o : HostId). GivenUp server past o i) s.0
      (c.left_out r i (same_body h k (epoch past) f n m b (Reclaimed r) p) j));
  admits = λ k ts p. absurd (cc);
  writes = λ w p. absurd (cc);
  writes_once = λ w p. absurd (cc);
  reserves = λ ts t u p. absurd (cc);
}

same_done : (h k : HostId) (e f n m : ℕ) (d o : DoneOf) → Sent h e n (Done d) ≡ Sent k f m (Done o) → d ≡ o
same_done h k e f n m d o p = cc

reply_tokens : (server : ServerId) (past : List Doing) (h : HostId) (n : ℕ) (d : DoneOf) → d.bring.tokens ≡ []
    → ServerTokens server past (Sent h (epoch past) n (Done d))
reply_tokens server past h n d empty = record {
  epochs = λ k f m b p. sym (same_sent h k (epoch past) f n m (Done d) b p).1;
  grants = λ k f m w p. absurd (cc);
  dones = λ k f m o p.
      inl (ap (λ (x : DoneOf). x.bring.tokens) (sym (same_done h k (epoch past) f n m d o p)) ∙ empty);
  revokes = λ k f m r i p. absurd (cc);
  revokes_here = λ k f m r p. absurd (cc);
  stamps = λ k f m y r p. absurd (cc);
  gones = λ k f m g p. absurd (cc);
  reclaimed = λ k f m r g p i. absurd (cc);
  left_out = λ k f m r i p j. absurd (cc);
  admits = λ k ts p. absurd (cc);
  writes = λ w p. absurd (cc);
  writes_once = λ w p. absurd (cc);
  reserves = λ ts t u p. absurd (cc);
}

has_written : (past : List Doing) (h : HostId) (d : DoneOf) (v : Written) → WroteThis past v → v.answer.host ≡ h
    → v.fileset ≡ d.fileset → v.number ≡ d.bring.number → d.outcome ≡ HasReply v.answer.reply → HasWritten past h d
has_written [] h d v o host fileset number reply = o
has_written (a ∷ past) h d v (inl p) host fileset number reply = inl (v, p, host, fileset, number, reply)
has_written (a ∷ past) h d v (inr p) host fileset number reply =
    inr (has_written past h d v p host fileset number reply)

reply_may : (server : ServerId) (tree : Tree) (s : Step) (past : List Doing) (h : HostId) (n : ℕ) (d : DoneOf)
    → IsReplyOf server past h n d → MaySend server tree s past (Sent h (epoch past) n (Done d))
reply_may server tree s past h n d r = record {
  grant_for = λ k f m g p. absurd (cc);
  done_for = λ k f m o p.
      (let x = same_sent h k (epoch past) f n m (Done d) (Done o) p in
      let y = same_done h k (epoch past) f n m d o p in
      subst (λ (z : HostId × ℕ × DoneOf). IsLive past z.0 × IsDecidedHere server past z.2.fileset z.1
      × DoneFor server tree past z.0 z.1 z.2) (λ i. (x.0 i, x.2 i, y i))
      (r.live, r.here, OfWritten (has_written past h d r.v r.wrote r.host r.fileset r.number r.reply) r.tokens r.last));
  revoke_for = λ k f m q i p. absurd (cc);
}

pub early_tokens : (server : ServerId) (past : List Doing) (a : Doing) → IsEarly server past a
    → ServerTokens server past a
early_tokens server past a (inl (h, n, b, is, word)) =
    subst (ServerTokens server past) (sym is) (word_tokens server past h n b word)
early_tokens server past a (inr (h, n, d, is, r)) =
    subst (ServerTokens server past) (sym is) (reply_tokens server past h n d r.tokens)

pub early_may : (server : ServerId) (tree : Tree) (s : Step) (past : List Doing) (a : Doing) → IsEarly server past a
    → MaySend server tree s past a
early_may server tree s past a (inl (h, n, b, is, word)) =
    subst (MaySend server tree s past) (sym is) (blank_may server tree s past h (epoch past) n b word.blank)
early_may server tree s past a (inr (h, n, d, is, r)) =
    subst (MaySend server tree s past) (sym is) (reply_may server tree s past h n d r)

-- # It stays so whatever is decided before it

-- the same was heard and sent, and no less was written down
pub record Grows (server : ServerId) (p q : List Doing) : Type 0 where
  pub heard : SameHeard server p q
  pub sent : (h : HostId) (e n : ℕ) (b : Body) → Both (SentTo p h e n b) (SentTo q h e n b)
  pub wrote : (v : Written) → WroteThis p v → WroteThis q v

pub grows_next : (server : ServerId) (p q : List Doing) (a : Doing) → Grows server p q → Grows server (a ∷ p) (a ∷ q)
grows_next server p q a g = record {
  heard = heard_next server p q g.heard a;
  sent = λ h e n b. (
    λ x. elim x [ inl y ↦ inl y | inr y ↦ inr ((g.sent h e n b).0 y) ],
    λ x. elim x [ inl y ↦ inl y | inr y ↦ inr ((g.sent h e n b).1 y) ],
  );
  wrote = λ v x. elim x [ inl y ↦ inl y | inr y ↦ inr (g.wrote v y) ];
}

pub grows_under : (server : ServerId) (p q more : List Doing) → Grows server p q
    → Grows server (appended more p) (appended more q)
grows_under server p q [] g = g
grows_under server p q (a ∷ more) g = grows_under server (a ∷ p) (a ∷ q) more (grows_next server p q a g)

-- a doing that takes and sends nothing
pub grows_inner : (server : ServerId) (p : List Doing) (a : Doing) → IsInner a
    → ((h : HostId) (e n : ℕ) (b : Body) → a ≡ Sent h e n b → ⊥) → Grows server p (a ∷ p)
grows_inner server p a i none = record {
  heard = heard_back (heard_inner server p a i);
  sent = λ h e n b. (λ x. inr x, λ x. elim x [ inl y ↦ absurd (none h e n b y) | inr y ↦ y ]);
  wrote = λ v x. inr x;
}

word_grows : (server : ServerId) (p q : List Doing) (h : HostId) (n : ℕ) (b : Body) → Grows server p q
    → IsWordOf server p h n b → IsWordOf server q h n b
word_grows server p q h n b g c = record {
  blank = c.blank;
  gone = λ o e. (let x = c.gone o e in (sym (g.heard.slots o.fileset) ∙ x.0, (g.heard.applied h o).0 x.1));
  reclaimed = λ r o e i. (g.heard.applied h o).0 (c.reclaimed r o e i);
  left_out = λ r o e i. (g.heard.given_up h o).0 (c.left_out r o e i);
}

reply_grows : (server : ServerId) (p q : List Doing) (h : HostId) (n : ℕ) (d : DoneOf) → Grows server p q
    → IsReplyOf server p h n d → IsReplyOf server q h n d
reply_grows server p q h n d g r = record {
  v = r.v;
  wrote = g.wrote r.v r.wrote;
  host = r.host;
  fileset = r.fileset;
  number = r.number;
  reply = r.reply;
  tokens = r.tokens;
  last = λ e m o t f. r.last e m o ((g.sent h e m (Done o)).1 t) f;
  live = (live_both server p q g.heard h).0 r.live;
  here = elim r.here [ inl none ↦ inl none | inr here ↦ inr (sym (g.heard.slots d.fileset) ∙ here) ];
}

pub early_grows : (server : ServerId) (p q : List Doing) (a : Doing) → Grows server p q → IsEarly server p a
    → IsEarly server q a
early_grows server p q a g (inl (h, n, b, is, word)) =
    inl (h, n, b, subst (λ e. a ≡ Sent h e n b) g.heard.epoch_is is, word_grows server p q h n b g word)
early_grows server p q a g (inr (h, n, d, is, r)) =
    inr (h, n, d, subst (λ e. a ≡ Sent h e n (Done d)) g.heard.epoch_is is, reply_grows server p q h n d g r)

-- each of some that were said, after one more decision or admission
pub each_grows : (server : ServerId) (p q : List Doing) (more : List Doing) → Grows server p q
    → EachInTurn (IsEarly server) more p → EachInTurn (IsEarly server) more q
each_grows server p q [] g each = tt
each_grows server p q (a ∷ more) g each =
    (early_grows server p q a g each.0, each_grows server (a ∷ p) (a ∷ q) more (grows_next server p q a g) each.1)

-- and so all are let
pub each_tokens : (server : ServerId) (p : List Doing) (more : List Doing) → EachInTurn (IsEarly server) more p
    → EachInTurn (ServerTokens server) more p
each_tokens server p [] each = tt
each_tokens server p (a ∷ more) each = (early_tokens server p a each.0, each_tokens server (a ∷ p) more each.1)

pub each_may : (server : ServerId) (tree : Tree) (s : Step) (p : List Doing) (more : List Doing)
    → EachInTurn (IsEarly server) more p → EachInTurn (MaySend server tree s) more p
each_may server tree s p [] each = tt
each_may server tree s p (a ∷ more) each =
    (early_may server tree s p a each.0, each_may server tree s (a ∷ p) more each.1)
