-- Acts that may be given once more.
use Rattle.std.proofs.Common.{◌≡◌, ◌≤◌, ◌⊎◌, ℕ, zero, suc, ◌+◌, List, [], ◌∷◌, ◌++◌, length, take, inl, inr, refl, sym}
use Rattle.std.proofs.Common.{subst, ◌∙◌, ap, arith}
use Rattle.std.specs.Prelude.{◌==◌, true, Option, Some, None, Result, Ok, Err, OnOk, OnErr, slice_set}
use Rattle.std.specs.Option.{option_map}
use Rattle.base_types.specs.declared.ids.HostId.{HostId}
use Rattle.base_types.specs.declared.ids.ServerId.{ServerId}
use Rattle.store_acts.specs.Acts.{act_done, dones_of, state_after}
use Rattle.store_acts.specs.Sound.{AllFit, Fits}
use Rattle.store_acts.specs.declared.act.Act.{Act}
use Rattle.store_acts.specs.declared.act.Act.TheVariants.{Epoch, Host}
use Rattle.store_state.specs.Rows.{found_named}
use Rattle.store_state.specs.declared.state.HostState.{HostState}
use Rattle.store_state.specs.declared.state.StoreState.{StoreState}
use Rattle.server_keeps.specs.Asking.{is_own, named_told}
use Rattle.server_looks.specs.Acts.{AreRepeatable, IsRepeatable, epoch_begun, first_reply, host_noted}

set_again : {A : Type 0} (xs : List A) (i : ℕ) (x : A) → slice_set (slice_set xs i x) i x ≡ slice_set xs i x
set_again [] i x = refl
set_again (y ∷ ys) zero x = refl
set_again (y ∷ ys) (suc i) x = ap (λ zs. y ∷ zs) (set_again ys i x)

pub host_again : (state : StoreState) (host : HostId) (known : HostState) → IsRepeatable state (Host host known)
unfolding act_done
host_again state host known = record {
  fits = tt;
  fits_again = tt;
  state_same = ap (λ hosts. record state { hosts = hosts }) (set_again state.hosts host.0 known);
  reply_same = refl;
}

pub host_done : (state : StoreState) (host : HostId) (known : HostState) → (act_done state (Host host known)).state
    ≡ host_noted state host known
unfolding act_done
host_done state host known = refl

pub epoch_done : (state : StoreState) → (act_done state Epoch).state ≡ epoch_begun state
unfolding act_done
epoch_done state = refl

-- what one act leaves that was given, where a fault came
pub of_one : (start after : StoreState) (act : Act) (k : ℕ) → k ≤ length (act ∷ []) → after ≡ state_after start
    (take k (act ∷ []))
    → (after ≡ start) ⊎ (after ≡ (act_done start act).state)
of_one start after act zero l e = inl e
of_one start after act (suc zero) l e = inr e
of_one start after act (suc (suc k)) l e = absurd (omega (arith, l))

-- it fits once more, and then leaves and answers what it does where it wasn't done
pub fits_once_more : (start now : StoreState) (act : Act) → IsRepeatable start act → (now ≡ start) ⊎
    (now ≡ (act_done start act).state) → AllFit now (act ∷ [])
fits_once_more start now act r (inl e) = (subst (λ (s : StoreState). Fits s act) (sym e) r.fits, tt)
fits_once_more start now act r (inr e) = (subst (λ (s : StoreState). Fits s act) (sym e) r.fits_again, tt)

pub state_once_more : (start now : StoreState) (act : Act) → IsRepeatable start act → (now ≡ start) ⊎
    (now ≡ (act_done start act).state)
    → state_after now (act ∷ []) ≡ (act_done start act).state
state_once_more start now act r (inl e) = ap (λ (s : StoreState). (act_done s act).state) e
state_once_more start now act r (inr e) = ap (λ (s : StoreState). (act_done s act).state) e ∙ r.state_same

pub reply_once_more : (start now : StoreState) (act : Act) → IsRepeatable start act → (now ≡ start) ⊎
    (now ≡ (act_done start act).state)
    → first_reply (dones_of now (act ∷ [])) ≡ (act_done start act).done.reply
reply_once_more start now act r (inl e) = ap (λ (s : StoreState). (act_done s act).done.reply) e
reply_once_more start now act r (inr e) = ap (λ (s : StoreState). (act_done s act).done.reply) e ∙ r.reply_same

pub same_then : (start after now : StoreState) (P : StoreState) → now ≡ after → (after ≡ start) ⊎ (after ≡ P) →
    (now ≡ start) ⊎ (now ≡ P)
same_then start after now P e (inl f) = inl (e ∙ f)
same_then start after now P e (inr f) = inr (e ∙ f)

-- all of a batch, of which the first were done
pub all_fit_again : (start now : StoreState) (acts : List Act) (k : ℕ) → AreRepeatable start acts
    → now ≡ state_after start (take k acts) → AllFit now acts
all_fit_again start now acts k r e = subst (λ (s : StoreState). AllFit s acts) (sym e) (r.fits_again k)

pub all_once_more : (start now : StoreState) (acts : List Act) (k : ℕ) → AreRepeatable start acts
    → now ≡ state_after start (take k acts) → state_after now acts ≡ state_after start acts
all_once_more start now acts k r e = ap (λ (s : StoreState). state_after s acts) e ∙ r.again k

pub on_ok_then : {T E : Type 0} (r : Result T E) (P Q : Type 0) → (P → Q) → OnOk r P → OnOk r Q
on_ok_then (Ok value) P Q f p = f p
on_ok_then (Err error) P Q f p = tt

pub on_err_is : {T E : Type 0} (r : Result T E) (P : Type 0) → P → OnErr r P
on_err_is (Ok value) P p = tt
on_err_is (Err error) P p = p

pub take_all : {A : Type 0} (xs : List A) → take (length xs) xs ≡ xs
take_all [] = refl
take_all (x ∷ xs) = ap (λ ys. x ∷ ys) (take_all xs)

-- two more at the end
two_more : {A : Type 0} (xs : List A) (a b : A) → (xs ++ a ∷ []) ++ b ∷ [] ≡ xs ++ a ∷ b ∷ []
two_more [] a b = refl
two_more (x ∷ xs) a b = ap (λ ys. x ∷ ys) (two_more xs a b)

pub pushed_two : {A T E : Type 0} (r : Result T E) (xs ys zs : List A) (a b : A) → ys ≡ xs ++ a ∷ [] → OnOk r
    (zs ≡ ys ++ b ∷ []) → OnOk r (zs ≡ xs ++ a ∷ b ∷ [])
pushed_two (Ok value) xs ys zs a b e f = f ∙ ap (λ l. l ++ b ∷ []) e ∙ two_more xs a b
pushed_two (Err error) xs ys zs a b e f = tt

-- the fileset that a call names is the one that is looked for
pub entered_is : (state : StoreState) (server : ServerId) (o : Option (ServerId × List ℕ)) (name : List ℕ)
    → state.server ≡ server
    → is_own server (option_map (λ p. p.0) o) ≡ true → Some name ≡ option_map (λ p. p.1) o → named_told state o
    ≡ found_named state name
entered_is state server None name e own is = absurd (cc)
entered_is state server (Some place) name e own is =
    let same : name ≡ place.1 = cc in
    let t : (place.0.0 == state.server.0) ≡ true = subst (λ (s : ServerId). (place.0.0 == s.0) ≡ true) (sym e) own in
    rw t (ap (found_named state) (sym same))
