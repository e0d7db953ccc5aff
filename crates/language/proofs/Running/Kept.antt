-- Nothing is given back during a run.
use Rattle.language.specs.Rules.{State, Outcome, ok, halt}
use Rattle.language.specs.Outcome.{state_of}
use Rattle.language.specs.Claims.{Stays, NothingGivenBack}
use Rattle.language.proofs.Running.Stable.{mark, Past, p_here, a_ok, a_halt, Sim, same, cut, block_sim, level_sim, begins_is}

stays : (s t : State) → Past (mark s) (mark t) → Stays s t
stays s t h = record { units_stay = h.used; bindings_stay = h.made; cells_stay = h.taken; numbers_stay = begins_is h.outs }

-- an evaluation under limits and under larger ones: the state before it, the first's last and the second's last
all_stays : {A : Type 0} (s : State) {o o' : Outcome A} → Sim (mark s) o o' → Stays s (state_of o) × Stays (state_of o) (state_of o')
all_stays s (same {o = ok a t} (a_ok h)) = (stays s t h, stays t t p_here)
all_stays s (same {o = halt w p t} (a_halt h)) = (stays s t h, stays t t p_here)
all_stays s (cut {s = t} {o = ok a u} h (a_ok k)) = (stays s t h, stays t u k)
all_stays s (cut {s = t} {o = halt w p u} h (a_halt k)) = (stays s t h, stays t u k)

pub nothing_given_back : NothingGivenBack
nothing_given_back L L' d d' le deeper ρ =
    let sim = level_sim le d d' deeper in (
      (λ e s. all_stays s (sim.expr_sim e ρ s)),
      (λ a s. all_stays s (sim.arg_sim a ρ s)),
      (λ x s. all_stays s (sim.def_sim x ρ s)),
      (λ c s. all_stays s (sim.stat_sim c ρ s)),
      (λ b s. all_stays s (block_sim sim b ρ s)),
    )
