pub mod Rules
pub mod RulesLaws
