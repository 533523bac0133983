-- The end of a step: what stays of the tables where claims are granted and tokens asked back, and all that was made.
use Rattle.std.proofs.Common.{◌≡◌, Bool, true, false, not, List, [], ◌∷◌, Option, None, Some, refl, sym, ◌∙◌, ap}
use Rattle.std.proofs.Common.{subst}
use Rattle.std.specs.Prelude.{is_none, is_some}
use Rattle.store_memory.specs.Views.{View}
use Rattle.store_state.specs.declared.state.StoreState.{StoreState}
use Rattle.token_manager.specs.Laws.{KeepsLaws}
use Rattle.token_manager.specs.Managers.{Manager, after_revoked, wanted}
use Rattle.token_types.specs.declared.token.Token.{Token}
use Rattle.token_types.specs.declared.token.TokenId.{TokenId}
use Rattle.server_tables.specs.Counting.{IsCounted}
use Rattle.server_tables.specs.Judging.{first_ripe}
use Rattle.server_tables.specs.declared.tables.Tables.{Tables}
use Rattle.server_says.specs.Taking.{Made, made}
use Rattle.server_says.specs.Draft.{Draft}
use Rattle.server_says.specs.Claiming.{AdmitsOne}
use Rattle.server_says.specs.Revoking.{Asking, all_revoked, asked, asked_all, asking_back, askings, not_asked}
use Rattle.server_says.specs.Running.{GoesTo}
use Rattle.server_says.proofs.Chains.{goes_keeps}
use Rattle.server_decides.specs.Deciding.{Decides, IsNextDue, NoneDue}
use Rattle.server_decides.specs.Finishing.{IsFinished}
use Rattle.server_decides.specs.Running.{making}
use Rattle.server_decides.specs.Sending.{HasSentAll}
use Rattle.server_decides.specs.Serving.{IsServed}
use Rattle.server_decides.specs.declared.deciding.Due.{Due}
use Rattle.server_decides.proofs.Served.{served_on}

-- # Claims that are granted

-- what stays of the tables
pub record IsBeside (x y : Tables) : Type 0 where
  pub server : y.server ≡ x.server
  pub roster : y.roster ≡ x.roster
  pub pending : y.pending ≡ x.pending

beside_here : (x : Tables) → IsBeside x x
beside_here x = record { server = refl; roster = refl; pending = refl }

admits_beside : (x : Tables) (a b : Made) → IsBeside x a.tables → AdmitsOne a b → IsBeside x b.tables
admits_beside x a b s one = record {
  server = ap (λ (y : Tables). y.server) one.so.tables ∙ s.server;
  roster = ap (λ (y : Tables). y.roster) one.so.tables ∙ s.roster;
  pending = ap (λ (y : Tables). y.pending) one.so.tables ∙ s.pending;
}

pub admits_served : (x y : Tables) (d e : Draft) (view : View) → GoesTo AdmitsOne (made x d) (made y e) → IsCounted y
    → IsServed x view.state → IsServed y view.state
admits_served x y d e view goes counted s =
    let k = goes_keeps AdmitsOne (λ (m : Made). IsBeside x m.tables) (λ a b. admits_beside x a b) (made x d) (made y e)
    goes (beside_here x) in
    served_on x y view view s (record { server = refl; roster = refl }) k.server k.roster counted k.pending

-- # Tokens that are asked back

revoked_asked : (m : Manager) (ids : List TokenId) → (all_revoked m ids).asked ≡ m.asked
revoked_asked m [] = refl
revoked_asked m (id ∷ ids) = revoked_asked (after_revoked m id) ids

revoked_latest : (m : Manager) (ids : List TokenId) → (all_revoked m ids).latest ≡ m.latest
revoked_latest m [] = refl
revoked_latest m (id ∷ ids) = revoked_latest (after_revoked m id) ids

module _ (state : StoreState) where
  asked_served : (x : Tables) (rs : List Asking) → IsServed x state → IsServed (asked_all x rs) state
  asked_served x [] s = s
  asked_served x (r ∷ rs) s = asked_served (asked x r.revoke) rs (record {
    store = record { server = s.store.server; roster = s.store.roster };
    users = s.users;
    counted = record {
      few = s.counted.few;
      asked = rw (revoked_asked x.tokens r.revoke.ids) s.counted.asked;
      latest = rw (revoked_latest x.tokens r.revoke.ids) s.counted.latest;
      small = s.counted.small;
      below = s.counted.below;
      rising = s.counted.rising;
      room = rw (revoked_asked x.tokens r.revoke.ids) s.counted.room;
      unasked = rw (revoked_latest x.tokens r.revoke.ids) s.counted.unasked;
    };
    asked = s.asked;
  })

  pub back_served : (x y : Tables) (d : Draft) (ts : List Token) → y ≡ (asking_back x d ts).tables
      → IsServed x state → IsServed y state
  back_served x y d ts e s =
      subst (λ (z : Tables). IsServed z state) (sym e) (asked_served x (askings x.stamp ts) s)

-- # The end

-- whether there is none, by the test of whether there is one
pub none_by : {A : Type 0} (o : Option A) (none : Bool) → is_some o ≡ not none → none ≡ is_none o
none_by None true e = refl
none_by None false e = absurd (cc)
none_by (Some x) true e = absurd (cc)
none_by (Some x) false e = refl

none_is : (due : Option Due) → is_none due ≡ true → due ≡ None
none_is None e = refl
none_is (Some due) e = absurd (cc)

pub rests_so : (y : Tables) (st next : StoreState) (due : Option Due) (rested : Bool) → next ≡ st
    → IsNextDue y st None due → rested ≡ is_none due → rested ≡ true → NoneDue y next None y.pending
rests_so y st next due rested e h is r =
    subst (λ (s : StoreState). NoneDue y s None y.pending) (sym e)
    (subst (IsNextDue y st None) (none_is due (sym is ∙ r)) h)

module _ (x y : Tables) (d e : Draft) (st next : StoreState) (t u v : Tables) (a b c : Draft) (mid late : StoreState)
  where
    pub finished_so : (due : Option Due) (rested : Bool) → GoesTo Decides (making x d st) (making t a mid)
        → NoneDue t mid a.fresh t.pending → GoesTo AdmitsOne (made t a) (made u b)
        → first_ripe u.recovering u.server ≡ None → IsServed u mid → HasSentAll mid u b v c → late ≡ mid
        → KeepsLaws v.tokens → y ≡ (asking_back v c (not_asked (wanted v.tokens))).tables
        → e ≡ (asking_back v c (not_asked (wanted v.tokens))).draft → next ≡ late → IsNextDue y late None due
        → rested ≡ is_none due → IsFinished x d st y e next rested
    finished_so due rested goes none admits ripe served sends still laws f g same is rests = record {
      decided = making t a mid;
      decides = goes;
      none_due = none;
      admitted = made u b;
      admits = admits;
      none_ripe = ripe;
      served = served;
      sent = made v c;
      sends = sends;
      laws = laws;
      asks = record { tables = f; draft = g };
      stored = same ∙ still;
      rests = rests_so y late next due rested same is rests;
    }
