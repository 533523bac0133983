-- What the calls owe, by what their parts answer.
use Rattle.std.proofs.Common.{◌≡◌, ℕ, true, false, List, [], ◌∷◌, inl, inr, refl, sym, ◌∙◌, ap, subst}
use Rattle.std.specs.Prelude.{All, AllPairs, IfOk, OnOk, Option, Result, Ok, Err}
use Rattle.std.proofs.lemmas.Bool.{false≢true}
use Rattle.std.proofs.lemmas.List.Elements.{All-head, All-tail}
use Rattle.base_types.specs.declared.errors.NoMemory.{NoMemory}
use Rattle.base_types.specs.declared.ids.ServerId.{ServerId}
use Rattle.tree_answers.specs.declared.tree.Tree.{Tree}
use Rattle.tree_calls.specs.declared.roster.Roster.{Roster}
use Rattle.message_types.specs.Soundness.{Each}
use Rattle.message_types.specs.declared.message.Message.{Message}
use Rattle.store_state.specs.declared.state.StoreState.{StoreState}
use Rattle.token_manager.specs.Laws.{KeepsLaws}
use Rattle.token_manager.proofs.Noting.{same_self}
use Rattle.token_manager.proofs.Pairs.{pairs_head, pairs_tail}
use Rattle.token_types.specs.Conflicts.{same_id}
use Rattle.token_types.specs.declared.token.Token.{Token}
use Rattle.token_types.specs.declared.token.TokenId.{TokenId}
use Rattle.run_rules.specs.Past.{In}
use Rattle.run_rules.specs.declared.step.Step.{Step}
use Rattle.server_tables.specs.Counting.{AreCounted, IsCounted}
use Rattle.server_tables.specs.Gives.{last_give}
use Rattle.server_tables.specs.Listing.{no_grace}
use Rattle.server_tables.specs.Standing.{tokens_of}
use Rattle.server_tables.specs.declared.hosts.Hosts.{Hosts}
use Rattle.server_tables.specs.declared.pending.Pending.{Pending}
use Rattle.server_tables.specs.declared.tables.LastGive.{LastGive}
use Rattle.server_tables.specs.declared.tables.Tables.{Tables}
use Rattle.server_tables.proofs.Waiting.{Asking, asked, asked_all}
use Rattle.server_decides.specs.Acting.{GivesBelow}
use Rattle.server_exporter.specs.Machines.{FollowsAlone, IsSame, Keeps}
use Rattle.server_decides.specs.Serving.{AreBrought, CameSo, IsServed}
use Rattle.server_decides.specs.Revoking.{askings, lapse_step, lapsing, owed}
use Rattle.server_exporter.specs.declared.exporter.Exporter.{Exporter}
use Rattle.server_exporter.proofs.Lapsed.{AreNumbered, lapse_follows}
use Rattle.server_exporter.proofs.Lapses.{asked_all_is, asks_of}
use Rattle.server_decides.proofs.Served.{users_stay}

on_ok : {E : Type 0} (r : Result Step E) {P Q : Type 0} → OnOk r P → (P → Q) → OnOk r Q
on_ok (Ok step) p f = f p
on_ok (Err error) p f = tt

-- the store stays the server's
-- of a number there is one token
pub all_at : {A : Type 0} (P : A → Type 0) (xs : List A) → All P xs → (x : A) → In x xs → P x
all_at P [] a x m = elim m [ ]
all_at P (y ∷ ys) a x (inl e) = subst P (sym e) (All-head P y ys a)
all_at P (y ∷ ys) a x (inr m) = all_at P ys (All-tail P y ys a) x m

differ : (t u : Token) → same_id t.id u.id ≡ false → t.id ≡ u.id → t ≡ u
differ t u e q = absurd (false≢true (sym e ∙ subst (λ (k : TokenId). same_id t.id k ≡ true) q (same_self t.id)))

abbrev AreApart : Token → Token → Type 0
AreApart a b = same_id a.id b.id ≡ false

numbered_in : (ts : List Token) → AllPairs AreApart ts → (t u : Token) → In t ts → In u ts → t.id ≡ u.id → t ≡ u
numbered_in [] p t u m k e = elim m [ ]
numbered_in (x ∷ xs) p t u (inl m) (inl k) e = m ∙ sym k
numbered_in (x ∷ xs) p t u (inl m) (inr k) e = m
    ∙ differ x u (all_at (AreApart x) xs (pairs_head AreApart x xs p) u k) (sym (ap (λ (w : Token). w.id) m) ∙ e)
numbered_in (x ∷ xs) p t u (inr m) (inl k) e =
    sym (differ x t (all_at (AreApart x) xs (pairs_head AreApart x xs p) t m) (sym (ap (λ (w : Token). w.id) k)
    ∙ sym e)) ∙ sym k
numbered_in (x ∷ xs) p t u (inr m) (inr k) e = numbered_in xs (pairs_tail AreApart x xs p) t u m k e

pub numbered : (x : Tables) → KeepsLaws x.tokens → AreNumbered x
unfolding KeepsLaws
numbered x laws = numbered_in (tokens_of x.tokens.grants) laws.table.distinct

-- # A lapse

-- what stays of the tables once tokens were asked back
pub record AreBeside (x y : Tables) : Type 0 where
  pub server : y.server ≡ x.server
  pub roster : y.roster ≡ x.roster
  pub hosts : y.hosts ≡ x.hosts
  pub pending : y.pending ≡ x.pending
  pub next : y.next ≡ x.next
  pub gives : y.gives ≡ x.gives
  pub asked : y.tokens.asked ≡ x.tokens.asked
  pub latest : y.tokens.latest ≡ x.tokens.latest

asked_beside : (x : Tables) (rs : List Asking) → AreBeside x (asked_all x rs)
asked_beside x [] = record {
  server = refl;
  roster = refl;
  hosts = refl;
  pending = refl;
  next = refl;
  gives = refl;
  asked = refl;
  latest = refl;
}
asked_beside x (r ∷ rs) = let k = asked_beside (asked x r.2) rs in
    record {
      server = k.server;
      roster = k.roster;
      hosts = k.hosts;
      pending = k.pending;
      next = k.next;
      gives = k.gives;
      asked = k.asked;
      latest = k.latest;
    }

pub lapse_beside : (x : Tables) → AreBeside x (lapsing x).tables
lapse_beside x = subst (AreBeside x) (sym (asked_all_is x (askings x.stamp (owed x))))
    (asked_beside x (asks_of (askings x.stamp (owed x))))

counted_beside : (x y : Tables) → AreBeside x y → IsCounted x → IsCounted y
counted_beside x y k c =
    subst (λ (h : Hosts). AreCounted (no_grace h) y.tokens.asked y.tokens.latest y.pending y.next) (sym k.hosts)
    (subst (λ (n : ℕ). AreCounted (no_grace x.hosts) n y.tokens.latest y.pending y.next) (sym k.asked)
    (subst (λ (o : Option ℕ). AreCounted (no_grace x.hosts) x.tokens.asked o y.pending y.next) (sym k.latest)
    (subst (λ (ps : List Pending). AreCounted (no_grace x.hosts) x.tokens.asked x.tokens.latest ps y.next)
    (sym k.pending)
    (subst (λ (n : ℕ). AreCounted (no_grace x.hosts) x.tokens.asked x.tokens.latest x.pending n) (sym k.next) c))))

served_beside : (x y : Tables) (state : StoreState) → AreBeside x y → IsServed x state → IsServed y state
served_beside x y state k s = record {
  store = record { server = s.store.server ∙ sym k.server; roster = s.store.roster ∙ sym k.roster };
  users = users_stay x y k.roster s.users;
  counted = counted_beside x y k s.counted;
  asked = subst (λ (v : ServerId). Each (λ (p : Pending). CameSo v y.roster p.wanted) y.pending) (sym k.server)
      (subst (λ (w : Roster). Each (λ (p : Pending). CameSo x.server w p.wanted) y.pending) (sym k.roster)
      (subst (λ (ps : List Pending). Each (λ (p : Pending). CameSo x.server x.roster p.wanted) ps)
      (sym k.pending) s.asked));
}

keeps_beside : (x y : Tables) (tree : Tree) (state : StoreState) → AreBeside x y → Keeps x tree state
    → Keeps y tree state
keeps_beside x y tree state k s = record {
  stands = s.stands;
  homes = s.homes;
  taken = subst (λ (gs : List LastGive). GivesBelow (last_give gs) state) (sym k.gives) s.taken;
  epoch = s.epoch ∙ ap (λ (h : Hosts). h.epoch) (sym k.hosts);
}

module _ (r : Result Step NoMemory) (x y : Exporter) (t : Tables) (after : y ≡ record x { tables = t }) where
  pub lapse_follows_all : x.rested ≡ true → AreNumbered x.tables → IfOk r (λ step. step ≡ lapse_step x.tables)
      → OnOk r (t ≡ (lapsing x.tables).tables)
      → IfOk r (λ step. FollowsAlone x step y)
  lapse_follows_all rested one e f = by r e f
    where
      by : (r : Result Step NoMemory) → IfOk r (λ step. step ≡ lapse_step x.tables)
          → OnOk r (t ≡ (lapsing x.tables).tables) → IfOk r (λ step. FollowsAlone x step y)
      by (Ok step) e f = lapse_follows x y step rested one e (after ∙ ap (λ (w : Tables). record x { tables = w }) f)
      by (Err error) e f = tt

  beside : t ≡ (lapsing x.tables).tables → AreBeside x.tables y.tables
  beside f = subst (AreBeside x.tables) (sym (ap (λ (w : Exporter). w.tables) after ∙ f)) (lapse_beside x.tables)

  pub lapse_served : OnOk r (t ≡ (lapsing x.tables).tables) → (state : StoreState) → IsServed x.tables state
      → OnOk r (IsServed y.tables state)
  lapse_served f state s = on_ok r f (λ k. served_beside x.tables y.tables state (beside k) s)

  pub lapse_keeps : OnOk r (t ≡ (lapsing x.tables).tables) → (tree : Tree) (state : StoreState)
      → Keeps x.tables tree state → OnOk r (Keeps y.tables tree state)
  lapse_keeps f tree state s = on_ok r f (λ k. keeps_beside x.tables y.tables tree state (beside k) s)

  pub lapse_same : OnOk r (t ≡ (lapsing x.tables).tables) → OnOk r (IsSame x y)
  lapse_same f = on_ok r f (λ k. record { server = (beside k).server; roster = (beside k).roster })

  pub lapse_brought : OnOk r (t ≡ (lapsing x.tables).tables) → (came : List Message)
      → AreBrought came x.tables.pending → OnOk r (AreBrought came y.tables.pending)
  lapse_brought f came all = on_ok r f (λ k. subst (AreBrought came) (sym (beside k).pending) all)
