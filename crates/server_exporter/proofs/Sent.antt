-- Requests are answered, one after the other: the rules let each answer be sent, and what is left can't be answered.
use Rattle.std.proofs.Common.{◌≡◌, true, List, [], ◌∷◌, ◌++◌, None, inl, inr, refl, sym, ◌∙◌, subst}
use Rattle.std.proofs.lemmas.Bool.{cases_Bool}
use Rattle.base_types.specs.declared.ids.ServerId.{ServerId}
use Rattle.tree_answers.specs.declared.tree.Tree.{Tree}
use Rattle.message_types.specs.declared.asking.Change.{Change as ChangeOf}
use Rattle.message_types.specs.declared.asking.Fetch.{Fetch as FetchOf}
use Rattle.message_types.specs.declared.message.Message.{Message}
use Rattle.run_rules.specs.Doings.{Doing, sending}
use Rattle.run_rules.specs.Past.{EachInTurn, In, appended}
use Rattle.run_rules.specs.ServerDecides.{IsOfRow, NotRefused}
use Rattle.run_rules.specs.ServerMay.{MaySend}
use Rattle.run_rules.specs.ServerTokens.{ServerTokens}
use Rattle.run_rules.specs.Wants.{CanDecide, CanGrant, is_use, row_needs}
use Rattle.run_rules.specs.declared.applied.Request.TheVariants.{Change as Changes, Fetch as Asks}
use Rattle.run_rules.specs.declared.step.Step.{Step}
use Rattle.server_decides.specs.StoreKeeping.{StandsFor}
use Rattle.store_state.specs.declared.state.StoreState.{StoreState}
use Rattle.server_tables.specs.Standing.{Stands}
use Rattle.server_tables.specs.declared.pending.Pending.{Pending}
use Rattle.server_tables.specs.declared.tables.Tables.{Tables}
use Rattle.server_tables.proofs.Making.{one_more, sending_both}
use Rattle.server_decides.specs.Serving.{IsServed}
use Rattle.server_decides.specs.Sending.{IsSending}
use Rattle.server_exporter.proofs.Making.{as_sent}
use Rattle.server_exporter.proofs.Sendings.{enter_left, fetch_left, other_left, use_left}

-- # Answers in a row

-- each of some messages is allowed after those before it
pub record AreAllowed (server : ServerId) (tree : Tree) (s : Step) (past : List Doing) (sent : List Message) : Type 0
  where
    pub tokens : EachInTurn (ServerTokens server) (sending sent) past
    pub may : EachInTurn (MaySend server tree s) (sending sent) past

pub none_allowed : (server : ServerId) (tree : Tree) (s : Step) (past : List Doing) → AreAllowed server tree s past []
none_allowed server tree s past = record { tokens = tt; may = tt }

-- one more is
pub allowed_more : (server : ServerId) (tree : Tree) (s : Step) (past : List Doing) (sent : List Message) (m : Message)
    → AreAllowed server tree s past sent → ServerTokens server (appended (sending sent) past) (as_sent m)
    → MaySend server tree s (appended (sending sent) past) (as_sent m)
    → AreAllowed server tree s past (sent ++ m ∷ [])
allowed_more server tree s past sent m a t y = record {
  tokens = subst (λ l. EachInTurn (ServerTokens server) l past) (sym (sending_both sent m))
      (one_more (ServerTokens server) (sending sent) (as_sent m) past a.tokens t);
  may = subst (λ l. EachInTurn (MaySend server tree s) l past) (sym (sending_both sent m))
      (one_more (MaySend server tree s) (sending sent) (as_sent m) past a.may y);
}

-- # What is left

-- a want that waits can't be answered
pub record IsLeftSo (server : ServerId) (tree : Tree) (past : List Doing) (p : Pending) : Type 0 where
  pub grants : (f : FetchOf) → p.wanted.request ≡ Asks f → CanGrant server past p.wanted → ⊥
  pub uses : (c : ChangeOf) → p.wanted.request ≡ Changes c → is_use c.call ≡ true
      → NotRefused tree p.wanted.host c → CanGrant server past p.wanted → ⊥
  pub others : (c : ChangeOf) → p.wanted.request ≡ Changes c → is_use c.call ≡ true
      → NotRefused tree p.wanted.host c → (IsOfRow tree p.wanted c → ⊥) → CanDecide server past p.wanted → ⊥
  pub enters : (c : ChangeOf) → p.wanted.request ≡ Changes c → c.enter ≡ true
      → NotRefused tree p.wanted.host c → CanGrant server past p.wanted → ⊥

-- one that is passed over
pub passed_left : (past : List Doing) (x : Tables) (st : StoreState) (tree : Tree) (z : Stands past x)
    (s : IsServed x st) (k : StandsFor tree st) (p : Pending) (i : In p x.pending)
    → ((c : ChangeOf) → p.wanted.request ≡ Changes c → c.enter ≡ true → p.wanted.needs ≡ [])
    → IsSending x st p None → IsLeftSo x.server tree past p
passed_left past x st tree z s k p i wants h = record {
  grants = λ f is g. fetch_left past x st tree z s k p i f is h g;
  uses = λ c is u n g. elim (cases_Bool c.enter) [
    | inl e ↦ enter_left past x st tree z s k p i c is h e n g
    | inr e ↦ use_left past x st tree z s k p i c is h u e n g
  ];
  others = λ c is u n o d. elim (cases_Bool c.enter) [
    | inl e ↦ o (entering c (wants c is e) e)
    | inr e ↦ other_left past x st tree z s k p i c is h u e n o d
  ];
  enters = λ c is e n g. enter_left past x st tree z s k p i c is h e n g;
}
  where
    -- one that enters is always of its row
    entering : (c : ChangeOf) → p.wanted.needs ≡ [] → c.enter ≡ true → IsOfRow tree p.wanted c
    entering c none e = (
      none ∙ sym (row_none e),
      λ u need m. (let o : In need [] = subst (In need) none m in elim o [ ]),
    )
      where
        row_none : c.enter ≡ true → row_needs tree p.wanted.host c ≡ []
        row_none e = rw e refl

-- what was left stays so where a later want is answered
pub still_left : (server : ServerId) (tree : Tree) (past now : List Doing) (p : Pending)
    → (CanGrant server now p.wanted → CanGrant server past p.wanted)
    → (CanDecide server now p.wanted → CanDecide server past p.wanted) → IsLeftSo server tree past p
    → IsLeftSo server tree now p
still_left server tree past now p grant decide l = record {
  grants = λ f is g. l.grants f is (grant g);
  uses = λ c is u n g. l.uses c is u n (grant g);
  others = λ c is u n o d. l.others c is u n o (decide d);
  enters = λ c is e n g. l.enters c is e n (grant g);
}
