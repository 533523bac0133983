-- Give-backs that wait, one more, and the store behind them.
use Rattle.std.proofs.Common.{◌≡◌, ◌∙◌, ◌≤◌, ◌<◌, ◌+◌, ℕ, List, [], ◌∷◌, ◌++◌, length, inl, inr, refl, sym, subst}
use Rattle.std.proofs.Common.{arith}
use Rattle.std.specs.Prelude.{Err, Ok, OnOk, Result}
use Rattle.base_types.specs.declared.ids.HostId.{HostId}
use Rattle.base_types.specs.declared.ids.ServerId.{ServerId}
use Rattle.tree_calls.specs.declared.roster.Roster.{Roster}
use Rattle.message_types.specs.Soundness.{Each}
use Rattle.message_types.specs.declared.giving.Give.{Give}
use Rattle.store_acts.specs.Acts.{state_after}
use Rattle.store_acts.specs.Sound.{IsAct}
use Rattle.store_acts.specs.declared.act.Act.{Act}
use Rattle.store_memory.specs.Views.{IsSameStore, View}
use Rattle.store_state.specs.declared.state.StoreState.{StoreState}
use Rattle.server_says.proofs.GivenAgain.{gives_same}
use Rattle.server_says.specs.Acts.{IsGive, IsLimited, giving}
use Rattle.server_says.specs.Messages.{IsOneMore}
use Rattle.server_decides.proofs.Served.{each_end}
use Rattle.server_decides.specs.Gathering.{AreGives, IsStoredOrSame}
use Rattle.server_decides.specs.Serving.{IsServed}
use Rattle.server_decides.specs.declared.finishing.TheConstants.{GIVES_MAX}
use Rattle.server_tables.specs.declared.tables.Tables.{Tables}

one_longer : (olds : List Act) (act : Act) → length (olds ++ act ∷ []) ≡ length olds + 1
one_longer [] act = refl
one_longer (old ∷ olds) act = let l = one_longer olds act in omega (arith, l)

moved_acts : (old new : StoreState) → new.server ≡ old.server → new.roster ≡ old.roster → (acts : List Act)
    → Each (IsAct old.roster old.server) acts → Each (IsAct new.roster new.server) acts
moved_acts old new server roster acts all =
    subst (λ (r : Roster). Each (IsAct r new.server) acts) (sym roster)
    (subst (λ (v : ServerId). Each (IsAct old.roster v) acts) (sym server) all)

-- one more waits, where there was room
pub gives_more : (old new : View) (host : HostId) (give : Give) (olds news : List Act) → AreGives old.state olds
    → length olds < GIVES_MAX → IsOneMore host give olds news
    → IsAct old.state.roster old.state.server (giving host give) → IsSameStore old new → AreGives new.state news
gives_more old new host give olds news k room (inl none) act same =
    subst (λ (acts : List Act). AreGives new.state acts) (sym none) (record {
      few = k.few;
      gives = k.gives;
      each = moved_acts old.state new.state same.server same.roster olds k.each;
    })
gives_more old new host give olds news k room (inr more) act same =
    subst (λ (acts : List Act). AreGives new.state acts) (sym more) (record {
      few = (let l = one_longer olds (giving host give) in omega (arith, room, l));
      gives = each_end IsGive olds (giving host give) k.gives act.2;
      each = moved_acts old.state new.state same.server same.roster (olds ++ giving host give ∷ [])
          (each_end (IsAct old.state.roster old.state.server) olds (giving host give) k.each act);
    })

pub none_wait : (state : StoreState) (acts : List Act) → acts ≡ [] → AreGives state acts
none_wait state acts none =
    subst (λ (l : List Act). AreGives state l) (sym none) (record { few = omega arith; gives = tt; each = tt })

-- the store behind what waits is the same server's
pub served_after : (x : Tables) (state : StoreState) (acts : List Act) → IsLimited state → AreGives state acts
    → IsServed x state → IsServed x (state_after state acts)
served_after x state acts limited k s =
    let same = gives_same state acts limited k.gives k.each in record {
      store = record {
        server = same.0 ∙ s.store.server;
        roster = same.1 ∙ s.store.roster;
      };
      users = s.users;
      counted = s.counted;
      asked = s.asked;
    }

-- and so it is behind a call that stored what waited, or left what it kept
pub served_then : {T E : Type 0} (tells : Type 0) → tells → (r : Result T E) (y : Tables) (old new : StoreState)
    (acts : List Act) → IsLimited old → OnOk r (IsStoredOrSame tells old new acts) → OnOk r (AreGives new acts)
    → OnOk r (IsServed y new) → OnOk r (IsServed y (state_after new acts))
served_then tells t (Ok value) y old new acts limited (inl none) k s =
    subst (λ (l : List Act). IsServed y (state_after new l)) (sym none) s
served_then tells t (Ok value) y old new acts limited (inr same) k s =
    served_after y new acts (subst IsLimited (sym (same t)) limited) k s
served_then tells t (Err error) y old new acts limited stays k s = tt
