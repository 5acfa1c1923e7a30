-- What clearing leaves of the tables: zeros, as many as there were.
use Rattle.std.specs.Prelude.{◌≡◌, List, ℕ, ℤ, pos, length, replicate}

-- the tables of the changes themselves, and the cutoff
pub record ChangesCleared (held₀ timestamps₀ order₀ status₀ withdrawn₀ lengths₀ programs₀ versions₀ cutoff₀ : List ℕ) (held₁ timestamps₁ order₁ status₁ withdrawn₁ lengths₁ programs₁ versions₁ cutoff₁ : List ℕ) : Type 0 where
  pub held : held₁ ≡ replicate (length held₀) 0
  pub timestamps : timestamps₁ ≡ replicate (length timestamps₀) 0
  pub order : order₁ ≡ replicate (length order₀) 0
  pub status : status₁ ≡ replicate (length status₀) 0
  pub withdrawn : withdrawn₁ ≡ replicate (length withdrawn₀) 0
  pub lengths : lengths₁ ≡ replicate (length lengths₀) 0
  pub programs : programs₁ ≡ replicate (length programs₀) 0
  pub versions : versions₁ ≡ replicate (length versions₀) 0
  pub cutoff : cutoff₁ ≡ replicate (length cutoff₀) 0

-- the tables of the read and write lists
pub record ListsCleared (reads₀ writes₀ sources₀ : List ℕ) (seen₀ : List ℤ) (targets₀ : List ℕ) (written₀ : List ℤ) (reads₁ writes₁ sources₁ : List ℕ) (seen₁ : List ℤ) (targets₁ : List ℕ) (written₁ : List ℤ) : Type 0 where
  pub reads : reads₁ ≡ replicate (length reads₀) 0
  pub writes : writes₁ ≡ replicate (length writes₀) 0
  pub sources : sources₁ ≡ replicate (length sources₀) 0
  pub seen : seen₁ ≡ replicate (length seen₀) (pos 0)
  pub targets : targets₁ ≡ replicate (length targets₀) 0
  pub written : written₁ ≡ replicate (length written₀) (pos 0)
