mod Lending
mod Asking
