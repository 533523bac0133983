-- Hosts are told of a restart one after the other.
use Rattle.std.proofs.Common.{◌≡◌, ◌∙◌, Bool, true, false, List, [], ◌∷◌, ◌++◌, map, refl, sym, ap, if◌then◌else◌}
use Rattle.std.specs.List.{filter}
use Rattle.std.proofs.lemmas.List.{append-nil, append_assoc}
use Rattle.base_types.specs.declared.ids.HostId.{HostId}
use Rattle.message_types.specs.declared.message.Message.{Message}
use Rattle.server_tables.specs.declared.tables.Tables.{Tables}
use Rattle.server_takes.specs.Drafts.{saying}
use Rattle.server_takes.specs.declared.draft.Draft.{Draft}
use Rattle.server_says.specs.Hailing.{hail, hailed_one, needs_hail}

abbrev pub hailed_all : Tables → Draft → List HostId → Draft
hailed_all x d [] = d
hailed_all x d (h ∷ hs) = hailed_all x (hailed_one x d h) hs

abbrev hail_if : Tables → Draft → HostId → Bool → Draft
hail_if x d h b = if b then saying d (hail x h) else d

one_is : (x : Tables) (d : Draft) (h : HostId) → hailed_one x d h ≡ hail_if x d h (needs_hail x h)
unfolding hailed_one
one_is x d h = refl

-- what is said to those behind comes after it
one_first : (x : Tables) (d : Draft) (h : HostId) (hs : List HostId) (b : Bool)
    → record (hail_if x d h b) { sent = (hail_if x d h b).sent ++ map (hail x) hs }
    ≡ record d { sent = d.sent ++ map (hail x) (if b then h ∷ hs else hs) }
one_first x d h hs true = ap (λ (ms : List Message). record d { sent = ms })
    (append_assoc d.sent (hail x h ∷ []) (map (hail x) hs))
one_first x d h hs false = refl

-- those that need it are told
pub all_hailed : (x : Tables) (d : Draft) (hs : List HostId)
    → hailed_all x d hs ≡ record d { sent = d.sent ++ map (hail x) (filter (needs_hail x) hs) }
all_hailed x d [] = ap (λ (ms : List Message). record d { sent = ms }) (sym (append-nil d.sent))
all_hailed x d (h ∷ hs) =
    all_hailed x (hailed_one x d h) hs
    ∙ ap (λ (e : Draft). record e { sent = e.sent ++ map (hail x) (filter (needs_hail x) hs) }) (one_is x d h)
    ∙ one_first x d h (filter (needs_hail x) hs) (needs_hail x h)
