-- Give-backs that wait to be stored.
use Rattle.std.proofs.Common.{◌≡◌, ◌∙◌, ◌≤◌, ℕ, zero, suc, List, [], ◌∷◌, ◌++◌, inl, inr, refl, sym, ap, subst, arith}
use Rattle.std.specs.Option.{option_map_or}
use Rattle.std.specs.Prelude.{◌&&◌, not, Bool, false, true, Option, Some, None, if◌then◌else◌, IfSome, take}
use Rattle.base_types.specs.declared.ids.Fid.{Fid}
use Rattle.base_types.specs.declared.ids.HostId.{HostId}
use Rattle.base_types.specs.declared.limits.TheConstants.{FILE_BYTES_MAX}
use Rattle.message_types.specs.Soundness.{Each}
use Rattle.message_types.specs.declared.giving.Give.{Give}
use Rattle.store_acts.specs.Acts.{act_done, state_after}
use Rattle.store_acts.specs.declared.act.Act.{Act}
use Rattle.store_acts.specs.declared.act.Act.TheVariants.{
  Boot,
  Epoch,
  Host,
  Do,
  Refuse,
  Give as Gives,
  Leave,
  Back,
  Left,
  Settle,
  Part,
}
use Rattle.store_memory.specs.Reading.{status_told}
use Rattle.store_state.specs.declared.state.StoreState.{StoreState}
use Rattle.tree_calls.specs.declared.part.Status.{Status}
use Rattle.server_looks.proofs.Gifts.{gift_still, kind}
use Rattle.base_types.specs.declared.ids.ServerId.{ServerId}
use Rattle.store_acts.specs.Sound.{AllFit, AreActs, IsAct}
use Rattle.tree_calls.specs.declared.roster.Roster.{Roster}
use Rattle.server_looks.specs.Acts.{AreRepeatable, IsGive, IsRepeatable, giving}
use Rattle.server_takes.specs.Messages.{IsOneMore}
use Rattle.server_takes.specs.Taking.{has_some, store_given, takes_gifts}

-- what an object is tells whether it takes gifts
takes_kind : (told : Option Status)
    → takes_gifts told ≡ option_map_or (λ (k : Bool × Bool). not k.0 && not k.1) (kind told) false
takes_kind None = refl
takes_kind (Some told) = refl

takes_same : (a b : Option Status) → kind a ≡ kind b → takes_gifts a ≡ takes_gifts b
takes_same a b e =
    takes_kind a ∙ ap (λ o. option_map_or (λ (k : Bool × Bool). not k.0 && not k.1) o false) e ∙ sym (takes_kind b)

one_still : (state : StoreState) (act : Act) → IsGive act → (fid : Fid)
    → kind (status_told (act_done state act).state fid) ≡ kind (status_told state fid)
one_still state (Gives host number at pieces given) few fid = gift_still state host number at pieces given few fid
one_still state Boot few fid = absurd few
one_still state Epoch few fid = absurd few
one_still state (Host host known) few fid = absurd few
one_still state (Do host number call) few fid = absurd few
one_still state (Refuse host id number refusal) few fid = absurd few
one_still state (Leave id to) few fid = absurd few
one_still state (Back host number id refusal) few fid = absurd few
one_still state (Left id) few fid = absurd few
one_still state (Settle id) few fid = absurd few
one_still state (Part from ship id moves at part) few fid = absurd few

kinds_still : (state : StoreState) (acts : List Act) → Each IsGive acts → (fid : Fid)
    → kind (status_told (state_after state acts) fid) ≡ kind (status_told state fid)
kinds_still state [] all fid = refl
kinds_still state (act ∷ acts) all fid =
    kinds_still (act_done state act).state acts all.1 fid ∙ one_still state act all.0 fid

-- whether a file takes what is given back doesn't change by what waits
pub gifts_still : (state : StoreState) (acts : List Act) → Each IsGive acts → (fid : Fid)
    → takes_gifts (status_told state fid) ≡ takes_gifts (status_told (state_after state acts) fid)
gifts_still state acts all fid =
    takes_same (status_told state fid) (status_told (state_after state acts) fid)
    (sym (kinds_still state acts all fid))

-- one more
pub one_after : (state : StoreState) (acts : List Act) (act : Act)
    → state_after state (acts ++ act ∷ []) ≡ (act_done (state_after state acts) act).state
one_after state [] act = refl
one_after state (first ∷ acts) act = one_after (act_done state first).state acts act

-- what was told of a file before what waits holds behind it
pub may_still : (state : StoreState) (acts : List Act) (give : Give) (may : Bool) → Each IsGive acts
    → may ≡ (has_some give && takes_gifts (status_told state give.fid))
    → may ≡ (has_some give && takes_gifts (status_told (state_after state acts) give.fid))
may_still state acts give may all e =
    e ∙ ap (λ (b : Bool). has_some give && b) (gifts_still state acts all give.fid)

-- one waits more that is stored
pub stored_more : (host : HostId) (give : Give) (start mid : StoreState) (olds news : List Act) (act : Act) (may : Bool)
    → mid ≡ start → news ≡ olds ++ act ∷ [] → act ≡ giving host give
    → may ≡ (has_some give && takes_gifts (status_told (state_after start olds) give.fid)) → may ≡ true
    → state_after mid news ≡ store_given host give (state_after start olds)
stored_more host give start mid olds news act may m n a e t =
    ap (λ (s : StoreState). state_after s news) m ∙ ap (state_after start) n ∙ one_after start olds act
    ∙ ap (λ (z : Act). (act_done (state_after start olds) z).state) a
    ∙ ap (λ (b : Bool). if b then (act_done (state_after start olds) (giving host give)).state
    else state_after start olds) (sym t ∙ e)

-- # One that waits alone

module _ (host : HostId) (give : Give) (news : List Act) where
  abbrev one : List Act
  one = giving host give ∷ []

  pub one_acts : (roster : Roster) (server : ServerId) → IsOneMore host give [] news
      → IsAct roster server (giving host give) → AreActs roster server news
  one_acts roster server (inl none) act =
      subst (λ (acts : List Act). AreActs roster server acts) (sym none) (record { few = omega arith; each = tt })
  one_acts roster server (inr more) act =
      subst (λ (acts : List Act). AreActs roster server acts) (sym more)
      (record { few = omega arith; each = (act, tt) })

  pub one_gives : IsOneMore host give [] news → IfSome give.length (λ n. n ≤ FILE_BYTES_MAX) → Each IsGive news
  one_gives (inl none) few = subst (λ (acts : List Act). Each IsGive acts) (sym none) tt
  one_gives (inr more) few = subst (λ (acts : List Act). Each IsGive acts) (sym more) (few, tt)

  none_repeats : (state : StoreState) → AreRepeatable state []
  none_repeats state = record {
    fits = tt;
    fits_again = λ k. tt;
    again = again;
  }
    where
      again : (k : ℕ) → state_after state (take k []) ≡ state
      again zero = refl
      again (suc k) = refl

  act_repeats : (state : StoreState) → IsRepeatable state (giving host give) → AreRepeatable state one
  act_repeats state r = record { fits = (r.fits, tt); fits_again = fits; again = again }
    where
      fits : (k : ℕ) → AllFit (state_after state (take k one)) one
      fits zero = (r.fits, tt)
      fits (suc zero) = (r.fits_again, tt)
      fits (suc (suc k)) = (r.fits_again, tt)

      again : (k : ℕ) → state_after (state_after state (take k one)) one ≡ state_after state one
      again zero = refl
      again (suc zero) = r.state_same
      again (suc (suc k)) = r.state_same

  pub one_repeats : (state mid : StoreState) → mid ≡ state → IsOneMore host give [] news
      → IsRepeatable state (giving host give) → AreRepeatable mid news
  one_repeats state mid same (inl none) r =
      subst (λ (acts : List Act). AreRepeatable mid acts) (sym none) (none_repeats mid)
  one_repeats state mid same (inr more) r =
      subst (λ (acts : List Act). AreRepeatable mid acts) (sym more)
      (subst (λ (s : StoreState). AreRepeatable s one) (sym same) (act_repeats state r))
