-- Each function of the table is one of the modules `std` and `cookie`.
use Rattle.std.proofs.Common.{◌≡◌, inl, inr, ℕ, zero, suc, List, Some, slice_get, refl, sym, subst}
use Rattle.std.proofs.lemmas.Option.{none-some, same_Some}
use Rattle.vmod_host.specs.declared.signature.Stored.{Stored}
use Rattle.vcl_soundness.specs.Laws.{AreMeant, IsStandard, StandardAreMeant}
use Rattle.vcl_library.specs.Functions.{std_functions}

all-standard : (k : ℕ) (entry : Stored) → slice_get std_functions k ≡ Some entry → IsStandard entry
unfolding std_functions
all-standard zero entry e = subst (λ (x : Stored). IsStandard x) (same_Some _ entry e) (inl (inl (record { tag = refl; jar = refl; takes = refl; gives = refl })))
all-standard (suc zero) entry e = subst (λ (x : Stored). IsStandard x) (same_Some _ entry e) (inl (inr (inl (record { tag = refl; jar = refl; takes = refl; gives = refl }))))
all-standard (suc (suc zero)) entry e = subst (λ (x : Stored). IsStandard x) (same_Some _ entry e) (inl (inr (inr (inl (record { tag = refl; jar = refl; takes = refl; gives = refl })))))
all-standard (suc (suc (suc zero))) entry e = subst (λ (x : Stored). IsStandard x) (same_Some _ entry e) (inl (inr (inr (inr (record { tag = refl; jar = refl; takes = refl; gives = refl })))))
all-standard (suc (suc (suc (suc zero)))) entry e = subst (λ (x : Stored). IsStandard x) (same_Some _ entry e) (inr (inl (record { tag = refl; jar = refl; takes = refl; gives = refl })))
all-standard (suc (suc (suc (suc (suc zero))))) entry e = subst (λ (x : Stored). IsStandard x) (same_Some _ entry e) (inr (inr (inl (record { tag = refl; jar = refl; takes = refl; gives = refl }))))
all-standard (suc (suc (suc (suc (suc (suc zero)))))) entry e = subst (λ (x : Stored). IsStandard x) (same_Some _ entry e) (inr (inr (inr (inl (record { tag = refl; jar = refl; takes = refl; gives = refl })))))
all-standard (suc (suc (suc (suc (suc (suc (suc zero))))))) entry e = subst (λ (x : Stored). IsStandard x) (same_Some _ entry e) (inr (inr (inr (inr (inl (record { tag = refl; jar = refl; takes = refl; gives = refl }))))))
all-standard (suc (suc (suc (suc (suc (suc (suc (suc zero)))))))) entry e = subst (λ (x : Stored). IsStandard x) (same_Some _ entry e) (inr (inr (inr (inr (inr (inl (record { tag = refl; jar = refl; takes = refl; gives = refl })))))))
all-standard (suc (suc (suc (suc (suc (suc (suc (suc (suc zero))))))))) entry e = subst (λ (x : Stored). IsStandard x) (same_Some _ entry e) (inr (inr (inr (inr (inr (inr (inl (record { tag = refl; jar = refl; takes = refl; gives = refl }))))))))
all-standard (suc (suc (suc (suc (suc (suc (suc (suc (suc (suc zero)))))))))) entry e = subst (λ (x : Stored). IsStandard x) (same_Some _ entry e) (inr (inr (inr (inr (inr (inr (inr (inl (record { tag = refl; jar = refl; takes = refl; gives = refl })))))))))
all-standard (suc (suc (suc (suc (suc (suc (suc (suc (suc (suc (suc zero))))))))))) entry e = subst (λ (x : Stored). IsStandard x) (same_Some _ entry e) (inr (inr (inr (inr (inr (inr (inr (inr (inl (record { tag = refl; jar = refl; takes = refl; gives = refl }))))))))))
all-standard (suc (suc (suc (suc (suc (suc (suc (suc (suc (suc (suc (suc zero)))))))))))) entry e = subst (λ (x : Stored). IsStandard x) (same_Some _ entry e) (inr (inr (inr (inr (inr (inr (inr (inr (inr (record { tag = refl; jar = refl; takes = refl; gives = refl }))))))))))
all-standard (suc (suc (suc (suc (suc (suc (suc (suc (suc (suc (suc (suc (suc k))))))))))))) entry e = absurd (none-some entry e)

-- so the table's functions have meanings
pub table-meant : (stored : List Stored) → stored ≡ std_functions → StandardAreMeant → AreMeant stored
table-meant stored e law = subst (λ (l : List Stored). AreMeant l) (sym e) (law std_functions all-standard)
