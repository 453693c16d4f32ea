pub mod HolesLaws
pub mod BorderLaws
